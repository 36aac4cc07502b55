-- A line read a character at a time gives what the whole line spells. Assumes nothing.
use Rattle.std.proofs.Common.{◌≡◌, ℕ, ◌+◌, ◌*◌, ◌<◌, ◌≤◌, Bool, true, false, cond, eqb, ltb, leb, List, [], ◌∷◌, ◌++◌, length, Some, None, Option, sym, refl, ap, ◌∙◌, ⊎_elim, arith, length-append}
use Rattle.std.proofs.lemmas.List.{append-nil, append_assoc, length_push}
use Rattle.std.proofs.lemmas.Bool.{cases_lt, cond-true, cond-false, le-leb, lt-leb, lt-ltb, le-ltb}
use Rattle.capture.specs.Hex.{Due, pair, second, any, digit_of, before, first, paired, spelled, fitting}
use Rattle.capture.specs.Steps.{LineMeaning, line, opened, closed, ended, read, EveryLineIsRead}

-- bytes before those that the rest of a line spells
abbrev onto : List ℕ → Option (List ℕ) → Option (List ℕ)
onto bs None = None
onto bs (Some cs) = Some (bs ++ cs)

-- a broken line stays broken
broken : (text bs : List ℕ) → ended (read (line None bs) text) ≡ None
broken [] bs = refl
broken (c ∷ cs) bs = broken cs bs

onto_push : (bs : List ℕ) (b : ℕ) (o : Option (List ℕ)) → fitting (onto (bs ++ (b ∷ [])) o) ≡ fitting (onto bs (before b o))
onto_push bs b None = refl
onto_push bs b (Some cs) = ap (λ (l : List ℕ). fitting (Some l)) (append_assoc bs (b ∷ []) cs)

onto_full : (bs : List ℕ) (b : ℕ) (o : Option (List ℕ)) → 136 ≤ length bs → None ≡ fitting (onto bs (before b o))
onto_full bs b None h = refl
onto_full bs b (Some cs) h =
    let l : 136 < length (bs ++ (b ∷ cs)) = simp length-append (omega arith) in
    sym (cond-false (leb (length (bs ++ (b ∷ cs))) 136) (Some (bs ++ (b ∷ cs))) None (lt-leb (length (bs ++ (b ∷ cs))) 136 l))

-- the rest cs of a line gives what it spells, behind the bytes that there are
Given : List ℕ → Type 0
Given cs = (d : Due) (bs : List ℕ) → length bs ≤ 136 → ended (read (line (Some d) bs) cs) ≡ fitting (onto bs (spelled cs d))

by_opened : (cs bs : List ℕ) (o : Option ℕ) → length bs ≤ 136 → Given cs → ended (read (opened bs o) cs) ≡ fitting (onto bs (first o (spelled cs)))
unfolding Given
by_opened cs bs None h rest = broken cs bs
by_opened cs bs (Some d) h rest = rest (second d) bs h

by_closed : (cs bs : List ℕ) (k : ℕ) (o : Option ℕ) → length bs ≤ 136 → Given cs → ended (read (closed k bs o) cs) ≡ fitting (onto bs (paired k o (spelled cs)))
unfolding Given
by_closed cs bs k None h rest = broken cs bs
by_closed cs bs k (Some d) h rest =
    let b = 16 * k + d in
    ⊎_elim
    (λ (l : length bs < 136).
    let long : length (bs ++ (b ∷ [])) ≤ 136 = let e = length_push bs b in omega arith in
    ap (λ (m : LineMeaning). ended (read m cs)) (cond-true (ltb (length bs) 136) (line (Some any) (bs ++ (b ∷ []))) (line None bs) (lt-ltb (length bs) 136 l))
    ∙ rest any (bs ++ (b ∷ [])) long
    ∙ onto_push bs b (spelled cs any))
    (λ (l : 136 ≤ length bs).
    ap (λ (m : LineMeaning). ended (read m cs)) (cond-false (ltb (length bs) 136) (line (Some any) (bs ++ (b ∷ []))) (line None bs) (le-ltb (length bs) 136 l))
    ∙ broken cs bs
    ∙ onto_full bs b (spelled cs any) l)
    (cases_lt (length bs) 136)

by_space : (t : Bool) (cs bs : List ℕ) (o : Option ℕ) → length bs ≤ 136 → Given cs → ended (read (cond t (line (Some pair) bs) (opened bs o)) cs) ≡ fitting (onto bs (cond t (spelled cs pair) (first o (spelled cs))))
unfolding Given
by_space true cs bs o h rest = rest pair bs h
by_space false cs bs o h rest = by_opened cs bs o h rest

given : (text : List ℕ) → Given text
unfolding Given
given [] pair bs h = refl
given [] (second k) bs h = refl
given [] any bs h = ap Some (sym (append-nil bs)) ∙ sym (cond-true (leb (length (bs ++ [])) 136) (Some (bs ++ [])) None (le-leb (length (bs ++ [])) 136 (let e = ap length (append-nil bs) in omega arith)))
given (c ∷ cs) pair bs h = by_opened cs bs (digit_of c) h (given cs)
given (c ∷ cs) (second k) bs h = by_closed cs bs k (digit_of c) h (given cs)
given (c ∷ cs) any bs h = by_space (eqb c 32) cs bs (digit_of c) h (given cs)

onto_none : (o : Option (List ℕ)) → onto [] o ≡ o
onto_none None = refl
onto_none (Some bs) = refl

pub every_line_is_read : EveryLineIsRead
unfolding Given
every_line_is_read text = given text pair [] (omega arith) ∙ ap fitting (onto_none (spelled text pair))
