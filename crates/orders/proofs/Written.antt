-- What a record's bytes are.
use Rattle.std.proofs.Common.{◌≡◌, ℕ, ◌+◌, ◌<◌, ◌≤◌, true, false, cond, eqb, ltb, List, [], ◌∷◌, ◌++◌, length, take, drop, sym, refl, ap, ◌∙◌, arith, length-append, length-drop}
use Rattle.std.proofs.lemmas.List.{append_assoc, take-append-drop, length-take-le, drop-drop, take_at, drop_at}
use Rattle.std.proofs.ByRecursion.{All-take, All-drop}
use Rattle.std.proofs.lemmas.Bool.{ne_eqb, cond_both, cond-false, ltb-false, le-ltb}
use Rattle.std.proofs.lemmas.Bool.Decides.{nat_tests}
use Rattle.orders.specs.Said.{Said, lay_out, limit, post, start, undo, keep, read}
use Rattle.orders.specs.Marks.{four, six, in_four, in_six}
use Rattle.orders.specs.Parse.{Parsed, order, nothing, cut, unknown, lay_out_of, limit_of, rows_of, post_of, undo_of, keep_of, read_of, marked, record_of}
use Rattle.orders.specs.Format.{encode, Bytes, Fits}
use Rattle.orders.proofs.Digits.{four_of, in_four_lem, six_of, in_six_lem}

-- what follows of a whole record: its bytes are the order's encoding
abbrev pub Written : List ℕ → Parsed → Type 0
Written bs (order s n) = Fits s × (bs ≡ encode s ++ drop n bs) × (n ≡ length (encode s))
Written bs nothing = Unit {0}
Written bs cut = Unit {0}
Written bs unknown = Unit {0}

-- in each kind of record, whose mark stands before bs
lay_out_written : (bs : List ℕ) → Bytes bs → Written (76 ∷ 79 ∷ bs) (lay_out_of bs)
lay_out_written [] h = tt
lay_out_written (n ∷ []) h = tt
lay_out_written (n ∷ d ∷ bs) h =
    cond_both (ltb (length (n ∷ d ∷ bs)) 2) cut (order (lay_out n d) 4) (Written (76 ∷ 79 ∷ n ∷ d ∷ bs)) (λ _. tt)
    (λ _. ((h.0, h.1.0), refl, refl))

limit_written : (bs : List ℕ) → Bytes bs → Written (76 ∷ 73 ∷ bs) (limit_of bs)
limit_written [] h = tt
limit_written (n ∷ []) h = tt
limit_written (n ∷ a ∷ []) h = tt
limit_written (n ∷ a ∷ b ∷ []) h = tt
limit_written (n ∷ a ∷ b ∷ c ∷ []) h = tt
limit_written (n ∷ a ∷ b ∷ c ∷ d ∷ []) h = tt
limit_written (n ∷ a ∷ b ∷ c ∷ d ∷ e ∷ []) h = tt
limit_written (n ∷ a ∷ b ∷ c ∷ d ∷ e ∷ f ∷ bs) h =
    let ha = h.1.0 in let hb = h.1.1.0 in let hc = h.1.1.1.0 in let hd = h.1.1.1.1.0 in let he = h.1.1.1.1.1.0 in let hf = h.1.1.1.1.1.1.0 in
    cond_both (ltb (length (n ∷ a ∷ b ∷ c ∷ d ∷ e ∷ f ∷ bs)) 7) cut (order (limit n (six (a ∷ b ∷ c ∷ d ∷ e ∷ f ∷ []))) 9) (Written (76 ∷ 73 ∷ n ∷ a ∷ b ∷ c ∷ d ∷ e ∷ f ∷ bs)) (λ _. tt)
    (λ _. ((h.0, omega arith), ap (λ (l : List ℕ). 76 ∷ 73 ∷ n ∷ (l ++ bs)) (sym (in_six_lem a b c d e f ha hb hc hd he hf)), refl))

undo_written : (bs : List ℕ) → Bytes bs → Written (85 ∷ 84 ∷ bs) (undo_of bs)
undo_written [] h = tt
undo_written (a ∷ []) h = tt
undo_written (a ∷ b ∷ []) h = tt
undo_written (a ∷ b ∷ c ∷ []) h = tt
undo_written (a ∷ b ∷ c ∷ d ∷ bs) h =
    let ha = h.0 in let hb = h.1.0 in let hc = h.1.1.0 in let hd = h.1.1.1.0 in
    cond_both (ltb (length (a ∷ b ∷ c ∷ d ∷ bs)) 4) cut (order (undo (four (a ∷ b ∷ c ∷ d ∷ []))) 6) (Written (85 ∷ 84 ∷ a ∷ b ∷ c ∷ d ∷ bs)) (λ _. tt)
    (λ _. (omega arith, ap (λ (l : List ℕ). 85 ∷ 84 ∷ (l ++ bs)) (sym (in_four_lem a b c d ha hb hc hd)), refl))

keep_written : (bs : List ℕ) → Bytes bs → Written (75 ∷ 84 ∷ bs) (keep_of bs)
keep_written [] h = tt
keep_written (a ∷ []) h = tt
keep_written (a ∷ b ∷ []) h = tt
keep_written (a ∷ b ∷ c ∷ []) h = tt
keep_written (a ∷ b ∷ c ∷ d ∷ bs) h =
    let ha = h.0 in let hb = h.1.0 in let hc = h.1.1.0 in let hd = h.1.1.1.0 in
    cond_both (ltb (length (a ∷ b ∷ c ∷ d ∷ bs)) 4) cut (order (keep (four (a ∷ b ∷ c ∷ d ∷ []))) 6) (Written (75 ∷ 84 ∷ a ∷ b ∷ c ∷ d ∷ bs)) (λ _. tt)
    (λ _. (omega arith, ap (λ (l : List ℕ). 75 ∷ 84 ∷ (l ++ bs)) (sym (in_four_lem a b c d ha hb hc hd)), refl))

read_written : (bs : List ℕ) → Bytes bs → Written (82 ∷ 68 ∷ bs) (read_of bs)
read_written [] h = tt
read_written (n ∷ bs) h = cond_both (ltb (length (n ∷ bs)) 1) cut (order (read n) 3) (Written (82 ∷ 68 ∷ n ∷ bs)) (λ _. tt) (λ _. (h.0, refl, refl))

rows_written : (l r : ℕ) (bs : List ℕ) → l < 256 → r < 256 → Bytes bs → Written (80 ∷ 82 ∷ l ∷ r ∷ bs) (rows_of l r bs)
rows_written l r bs hl hr h =
    let L : List ℕ = take l bs in
    let R : List ℕ = take r (drop l bs) in
    cond_both (ltb (length bs) (l + r)) cut (order (post L R) (4 + l + r)) (Written (80 ∷ 82 ∷ l ∷ r ∷ bs)) (λ _. tt)
    (λ no.
    let fits : l + r ≤ length bs = ltb-false (length bs) (l + r) no in
    let el : length L ≡ l = length-take-le l bs (omega arith) in
    let er : length R ≡ r = length-take-le r (drop l bs) (omega (arith, length-drop l bs)) in
    let flat : 4 + l + r ≡ 4 + (l + r) = omega arith in
    let past : drop (4 + l + r) (80 ∷ 82 ∷ l ∷ r ∷ bs) ≡ drop r (drop l bs) =
    ap (λ (k : ℕ). drop k (80 ∷ 82 ∷ l ∷ r ∷ bs)) flat ∙ sym (drop-drop (l + r) 4 (80 ∷ 82 ∷ l ∷ r ∷ bs)) ∙ sym (drop-drop r l bs) in
    let all : (L ++ R) ++ drop r (drop l bs) ≡ bs =
    append_assoc L R (drop r (drop l bs)) ∙ ap (λ (t : List ℕ). L ++ t) (take-append-drop r (drop l bs)) ∙ take-append-drop l bs in
    let z : List ℕ = drop (4 + l + r) (80 ∷ 82 ∷ l ∷ r ∷ bs) in
    let same : l ∷ r ∷ bs ≡ length L ∷ length R ∷ ((L ++ R) ++ z) = rw (el, er, past, all) in (
      (omega arith, omega arith, All-take (λ b. b < 256) l bs h, All-take (λ b. b < 256) r (drop l bs) (All-drop (λ b. b < 256) l bs h)),
      ap (λ (t : List ℕ). 80 ∷ 82 ∷ t) same,
      omega (arith, length-append L R),
    ))

post_written : (bs : List ℕ) → Bytes bs → Written (80 ∷ 82 ∷ bs) (post_of bs)
post_written [] h = tt
post_written (l ∷ []) h = tt
post_written (l ∷ r ∷ bs) h =
    cond_both (ltb (length (l ∷ r ∷ bs)) 2) cut (rows_of l r bs) (Written (80 ∷ 82 ∷ l ∷ r ∷ bs)) (λ _. tt) (λ _. rows_written l r bs h.0 h.1.0 h.1.1)

-- two bytes that pass the test for the mark x y are that mark
pub is_mark_lem : (x y a b : ℕ) → cond (eqb a x) (eqb b y) false ≡ true → (a ≡ x) × (b ≡ y)
is_mark_lem x y a b e = grind (arith, nat_tests)

mark : (x y a b : ℕ) (bs : List ℕ) (p q : Parsed) → Written (x ∷ y ∷ bs) p → Written (a ∷ b ∷ bs) q → Written (a ∷ b ∷ bs) (cond (cond (eqb a x) (eqb b y) false) p q)
mark x y a b bs p q h k =
    cond_both (cond (eqb a x) (eqb b y) false) p q (Written (a ∷ b ∷ bs))
    (λ e. let m = is_mark_lem x y a b e in rw (m.0, m.1) h)
    (λ _. k)

marked_written : (a b : ℕ) (bs : List ℕ) → Bytes bs → Written (a ∷ b ∷ bs) (marked a b bs)
marked_written a b bs h =
    mark 76 79 a b bs _ _ (lay_out_written bs h)
    (mark 76 73 a b bs _ _ (limit_written bs h)
    (mark 80 82 a b bs _ _ (post_written bs h)
    (mark 79 84 a b bs _ _ (tt, refl, refl)
    (mark 85 84 a b bs _ _ (undo_written bs h)
    (mark 75 84 a b bs _ _ (keep_written bs h)
    (mark 82 68 a b bs _ _ (read_written bs h) tt))))))

pub written : (bs : List ℕ) → Bytes bs → Written bs (record_of bs)
written [] h = tt
written (a ∷ []) h = tt
written (a ∷ b ∷ bs) h =
    let two : List ℕ = a ∷ b ∷ bs in
    cond_both (eqb (length two) 0) nothing (cond (ltb (length two) 2) cut (marked a b bs)) (Written two) (λ _. tt)
    (λ _. cond_both (ltb (length two) 2) cut (marked a b bs) (Written two) (λ _. tt) (λ _. marked_written a b bs h.1.1))

-- with two bytes there, the mark decides
pub two_up : (a b : ℕ) (bs : List ℕ) → record_of (a ∷ b ∷ bs) ≡ marked a b bs
two_up a b bs =
    let two : List ℕ = a ∷ b ∷ bs in
    cond-false (eqb (length two) 0) nothing (cond (ltb (length two) 2) cut (marked a b bs)) (ne_eqb (length two) 0 (λ e. omega arith)) ∙
    cond-false (ltb (length two) 2) cut (marked a b bs) (le-ltb (length two) 2 (omega arith))

pub enough : (bs : List ℕ) (n : ℕ) (p : Parsed) → n ≤ length bs → cond (ltb (length bs) n) cut p ≡ p
enough bs n p h = cond-false (ltb (length bs) n) cut p (le-ltb (length bs) n h)

-- an order's encoding, whatever follows it, is read as that order
pub reads_one : (s : Said) (rest : List ℕ) → Fits s → record_of (encode s ++ rest) ≡ order s (length (encode s))
reads_one (lay_out n d) rest h = two_up 76 79 (n ∷ d ∷ rest) ∙ enough (n ∷ d ∷ rest) 2 (order (lay_out n d) 4) (omega arith)
reads_one (limit n v) rest h =
    two_up 76 73 (n ∷ (in_six v ++ rest)) ∙ enough (n ∷ (in_six v ++ rest)) 7 (order (limit n (six (in_six v ++ rest))) 9) (omega arith) ∙
    ap (λ (w : ℕ). order (limit n w) 9) (six_of v rest h.1)
reads_one (post L R) rest h =
    let l : ℕ = length L in
    let r : ℕ = length R in
    let cells : List ℕ = (L ++ R) ++ rest in
    let len : length cells ≡ l + r + length rest = omega (arith, length-append (L ++ R) rest, length-append L R) in
    let a : cells ≡ L ++ (R ++ rest) = append_assoc L R rest in
    let el : take l cells ≡ L = rw a (take_at L (R ++ rest) l refl) in
    let ed : drop l cells ≡ R ++ rest = rw a (drop_at L (R ++ rest) l refl) in
    let er : take r (drop l cells) ≡ R = rw ed (take_at R rest r refl) in
    let n : 4 + l + r ≡ length (encode (post L R)) = omega (arith, length-append L R) in
    two_up 80 82 (l ∷ r ∷ cells) ∙ enough (l ∷ r ∷ cells) 2 (rows_of l r cells) (omega arith) ∙
    enough cells (l + r) (order (post (take l cells) (take r (drop l cells))) (4 + l + r)) (omega arith) ∙ rw (el, er, n)
reads_one start rest h = two_up 79 84 rest
reads_one (undo t) rest h =
    two_up 85 84 (in_four t ++ rest) ∙ enough (in_four t ++ rest) 4 (order (undo (four (in_four t ++ rest))) 6) (omega arith) ∙
    ap (λ (w : ℕ). order (undo w) 6) (four_of t rest h)
reads_one (keep t) rest h =
    two_up 75 84 (in_four t ++ rest) ∙ enough (in_four t ++ rest) 4 (order (keep (four (in_four t ++ rest))) 6) (omega arith) ∙
    ap (λ (w : ℕ). order (keep w) 6) (four_of t rest h)
reads_one (read n) rest h = two_up 82 68 (n ∷ rest) ∙ enough (n ∷ rest) 1 (order (read n) 3) (omega arith)
