-- What stands at a place where no order can be read.
use Rattle.std.proofs.Common.{◌≡◌, ℕ, ◌+◌, ◌<◌, ◌≤◌, Bool, true, false, cond, eqb, ltb, ◌⊎◌, List, [], ◌∷◌, ◌++◌, length, get_or, take, drop, replicate, sym, refl, ap, ◌∙◌, subst, inl, inr, ⊎_elim, arith, lit<, length-append, length-drop}
use Rattle.std.proofs.lemmas.List.{append_assoc, append-nil, take-append-drop, take-append-le, take_at, take-take, length-replicate, get_or-replicate}
use Rattle.std.proofs.ByRecursion.{All-append, All-get_or, All-from_get_or}
use Rattle.std.proofs.lemmas.Bool.{cond_both, cases_lt}
use Rattle.orders.specs.Said.{Said, lay_out, limit, post, start, undo, keep, read}
use Rattle.orders.specs.Marks.{LO, LI, PR, OT, UT, KT, RD, is_mark}
use Rattle.orders.specs.Parse.{Parsed, order, nothing, cut, unknown, lay_out_of, limit_of, rows_of, post_of, undo_of, keep_of, read_of, marked, record_of}
use Rattle.orders.specs.Format.{encode, Bytes, Fits, Strange, Beginning}
use Rattle.orders.proofs.Written.{Written, written, two_up, enough, is_mark_lem, reads_one}

-- the mark is known
abbrev Known : Parsed → Type 0
Known (order s n) = Unit {0}
Known nothing = Unit {0}
Known cut = Unit {0}
Known unknown = ⊥

fields_known : (b : Bool) (s : Said) (n : ℕ) → Known (cond b cut (order s n))
fields_known b s n = cond_both b cut (order s n) Known (λ _. tt) (λ _. tt)

mark_known : (s : Said) (bs : List ℕ) → Known (record_of (take 2 (encode s) ++ bs))
mark_known (lay_out n d) bs = rw (two_up 76 79 bs) (fields_known (ltb (length bs) 2) _ _)
mark_known (limit n v) bs = rw (two_up 76 73 bs) (fields_known (ltb (length bs) 7) _ _)
mark_known (post l r) bs = rw (two_up 80 82 bs) (cond_both (ltb (length bs) 2) cut (rows_of (get_or bs 0 0) (get_or bs 1 0) (drop 2 bs)) Known (λ _. tt) (λ _. fields_known (ltb (length (drop 2 bs)) (get_or bs 0 0 + get_or bs 1 0)) _ _))
mark_known start bs = rw (two_up 79 84 bs) tt
mark_known (undo t) bs = rw (two_up 85 84 bs) (fields_known (ltb (length bs) 4) _ _)
mark_known (keep t) bs = rw (two_up 75 84 bs) (fields_known (ltb (length bs) 4) _ _)
mark_known (read n) bs = rw (two_up 82 68 bs) (fields_known (ltb (length bs) 1) _ _)

two_from_unknown : (bs : List ℕ) → record_of bs ≡ unknown → 2 ≤ length bs
two_from_unknown [] e = absurd cc
two_from_unknown (a ∷ []) e = absurd cc
two_from_unknown (a ∷ b ∷ bs) e = omega arith

pub strange_from_unknown : (bs : List ℕ) → record_of bs ≡ unknown → Strange bs
strange_from_unknown bs e = (
  two_from_unknown bs e,
  λ s same.
      let is : record_of (take 2 (encode s) ++ drop 2 bs) ≡ unknown = ap (λ (l : List ℕ). record_of (l ++ drop 2 bs)) (sym same) ∙ ap record_of (take-append-drop 2 bs) ∙ e in
      subst Known is (mark_known s (drop 2 bs)),
)

-- a test for a mark that no order has
passes_over : (x y a b : ℕ) (p q r : Parsed) → ((a ≡ x) × (b ≡ y) → ⊥) → q ≡ r → cond (cond (eqb a x) (eqb b y) false) p q ≡ r
passes_over x y a b p q r h e =
    cond_both (cond (eqb a x) (eqb b y) false) p q (λ v. v ≡ r) (λ t. absurd (h (is_mark_lem x y a b t))) (λ _. e)

pub unknown_from_strange : (bs : List ℕ) → Strange bs → record_of bs ≡ unknown
unknown_from_strange [] h = absurd (omega (arith, h.0))
unknown_from_strange (a ∷ []) h = absurd (omega (arith, h.0))
unknown_from_strange (a ∷ b ∷ bs) h =
    let no : (s : Said) (x y : ℕ) → x ∷ y ∷ [] ≡ take 2 (encode s) → (a ≡ x) × (b ≡ y) → ⊥ =
    λ s x y e m. h.1 s (ap (λ (k : ℕ). k ∷ b ∷ []) m.0 ∙ ap (λ (k : ℕ). x ∷ k ∷ []) m.1 ∙ e) in
    two_up a b bs ∙
    passes_over 76 79 a b (lay_out_of bs) _ unknown (no (lay_out 0 0) 76 79 refl)
    (passes_over 76 73 a b (limit_of bs) _ unknown (no (limit 0 0) 76 73 refl)
    (passes_over 80 82 a b (post_of bs) _ unknown (no (post [] []) 80 82 refl)
    (passes_over 79 84 a b (order start 2) _ unknown (no start 79 84 refl)
    (passes_over 85 84 a b (undo_of bs) _ unknown (no (undo 0) 85 84 refl)
    (passes_over 75 84 a b (keep_of bs) _ unknown (no (keep 0) 75 84 refl)
    (passes_over 82 68 a b (read_of bs) _ unknown (no (read 0) 82 68 refl) refl))))))

-- with bytes enough after it, every record that was cut short is whole
abbrev Filled : Parsed → Parsed → Type 0
Filled (order s n) y = Unit {0}
Filled nothing y = Unit {0}
Filled cut y = (s : Said) × (n : ℕ) × (y ≡ order s n)
Filled unknown y = Unit {0}

whole_fills : (x : Parsed) (s : Said) (n : ℕ) → Filled x (order s n)
whole_fills (order t m) s n = tt
whole_fills nothing s n = tt
whole_fills cut s n = (s, n, refl)
whole_fills unknown s n = tt

fields_fill : (x : Parsed) (bs : List ℕ) (m n : ℕ) (s : Said) → m ≤ length bs → Filled x (cond (ltb (length bs) m) cut (order s n))
fields_fill x bs m n s h = rw (enough bs m (order s n) h) (whole_fills x s n)

rows_fill : (x : Parsed) (bs : List ℕ) → Bytes bs → 512 ≤ length bs → Filled x (post_of bs)
rows_fill x bs h k =
    let l : get_or bs 0 0 < 256 = All-get_or (λ b. b < 256) bs 0 0 (omega arith) h in
    let r : get_or bs 1 0 < 256 = All-get_or (λ b. b < 256) bs 1 0 (omega arith) h in
    rw (enough bs 2 (rows_of (get_or bs 0 0) (get_or bs 1 0) (drop 2 bs)) (omega arith))
    (fields_fill x (drop 2 bs) (get_or bs 0 0 + get_or bs 1 0) _ _ (omega (arith, length-drop 2 bs)))

either_fills : (b : Bool) (p q x y : Parsed) → Filled p x → Filled q y → Filled (cond b p q) (cond b x y)
either_fills true p q x y h k = h
either_fills false p q x y h k = k

marked_fills : (a b : ℕ) (bs cs : List ℕ) → Bytes cs → 512 ≤ length cs → Filled (marked a b bs) (marked a b cs)
marked_fills a b bs cs h k =
    either_fills (is_mark LO a b) _ _ _ _ (fields_fill (lay_out_of bs) cs 2 4 _ (omega arith))
    (either_fills (is_mark LI a b) _ _ _ _ (fields_fill (limit_of bs) cs 7 9 _ (omega arith))
    (either_fills (is_mark PR a b) _ _ _ _ (rows_fill (post_of bs) cs h k)
    (either_fills (is_mark OT a b) _ _ _ _ tt
    (either_fills (is_mark UT a b) _ _ _ _ (fields_fill (undo_of bs) cs 4 6 _ (omega arith))
    (either_fills (is_mark KT a b) _ _ _ _ (fields_fill (keep_of bs) cs 4 6 _ (omega arith))
    (either_fills (is_mark RD a b) _ _ _ _ (fields_fill (read_of bs) cs 1 3 _ (omega arith)) tt))))))

-- what a whole record says when its bytes go on
as_written : (bs : List ℕ) (s : Said) (n : ℕ) → Bytes bs → record_of bs ≡ order s n → Fits s × (bs ≡ encode s ++ drop n bs) × (n ≡ length (encode s))
as_written bs s n h e = subst (Written bs) e (written bs h)

zeros : List ℕ
zeros = replicate 512 0

zeros_long : length zeros ≡ 512
unfolding zeros
zeros_long = length-replicate {A = ℕ} 512 0

zeros_bytes : Bytes zeros
unfolding zeros
zeros_bytes = All-from_get_or (λ b. b < 256) (replicate 512 0) 0 (λ i h. let lt : i < 512 = omega (arith, length-replicate {A = ℕ} 512 0) in rw (get_or-replicate {A = ℕ} 512 i 0 0 lt) (lit< tt))

-- bytes that begin a record of n bytes, when they go on with zs, begin it for good
begins : (bs zs : List ℕ) (s : Said) (n : ℕ) → record_of bs ≡ cut → Fits s → bs ++ zs ≡ encode s ++ drop n (bs ++ zs) → n ≡ length (encode s) → Beginning bs
begins bs zs s n e fits is len =
    let front : take n (bs ++ zs) ≡ encode s = ap (take n) is ∙ take_at (encode s) (drop n (bs ++ zs)) n (sym len) in
    ⊎_elim
    (λ (less : length bs < n).
    let head : take (length bs) (encode s) ≡ bs =
    ap (take (length bs)) (sym front) ∙ take-take (length bs) n (bs ++ zs) (omega arith) ∙ take_at bs zs (length bs) refl in
    let rest : List ℕ = drop (length bs) (encode s) in
    let left : 0 < length rest = omega (arith, length-drop (length bs) (encode s)) in
    (s, rest, fits, left, sym (take-append-drop (length bs) (encode s)) ∙ ap (λ (l : List ℕ). l ++ rest) head))
    (λ (more : n ≤ length bs).
    let a : take n bs ≡ encode s = sym (take-append-le n bs zs more) ∙ front in
    let b : bs ≡ encode s ++ drop n bs = sym (take-append-drop n bs) ∙ ap (λ (l : List ℕ). l ++ drop n bs) a in
    let o : record_of bs ≡ order s (length (encode s)) = ap record_of b ∙ reads_one s (drop n bs) fits in
    absurd cc)
    (cases_lt (length bs) n)

pub beginning_from_cut : (bs : List ℕ) → Bytes bs → record_of bs ≡ cut → (length bs ≡ 1) ⊎ ((2 ≤ length bs) × Beginning bs)
beginning_from_cut [] h e = absurd cc
beginning_from_cut (a ∷ []) h e = inl refl
beginning_from_cut (a ∷ b ∷ bs) h e =
    let all : Bytes ((a ∷ b ∷ bs) ++ zeros) = All-append (λ x. x < 256) (a ∷ b ∷ bs) zeros h zeros_bytes in
    let f : Filled cut (marked a b (bs ++ zeros)) = subst (λ (x : Parsed). Filled x (marked a b (bs ++ zeros))) (sym (two_up a b bs) ∙ e)
    (marked_fills a b bs (bs ++ zeros) all.1.1 (omega (arith, length-append bs zeros, zeros_long))) in
    let w = as_written ((a ∷ b ∷ bs) ++ zeros) f.0 f.1 all (two_up a b (bs ++ zeros) ∙ f.2) in
    inr (omega arith, begins (a ∷ b ∷ bs) zeros f.0 f.1 e w.0 w.1 w.2)

-- where two bytes stand, there is something
abbrev Met : Parsed → Type 0
Met (order s n) = Unit {0}
Met nothing = ⊥
Met cut = Unit {0}
Met unknown = Unit {0}

fields_met : (b : Bool) (s : Said) (n : ℕ) → Met (cond b cut (order s n))
fields_met b s n = cond_both b cut (order s n) Met (λ _. tt) (λ _. tt)

either_met : (b : Bool) (x y : Parsed) → Met x → Met y → Met (cond b x y)
either_met b x y h k = cond_both b x y Met (λ _. h) (λ _. k)

marked_met : (a b : ℕ) (bs : List ℕ) → Met (marked a b bs)
marked_met a b bs =
    either_met (is_mark LO a b) _ _ (fields_met (ltb (length bs) 2) _ _)
    (either_met (is_mark LI a b) _ _ (fields_met (ltb (length bs) 7) _ _)
    (either_met (is_mark PR a b) _ _ (either_met (ltb (length bs) 2) cut _ tt (fields_met (ltb (length (drop 2 bs)) (get_or bs 0 0 + get_or bs 1 0)) _ _))
    (either_met (is_mark OT a b) _ _ tt
    (either_met (is_mark UT a b) _ _ (fields_met (ltb (length bs) 4) _ _)
    (either_met (is_mark KT a b) _ _ (fields_met (ltb (length bs) 4) _ _)
    (either_met (is_mark RD a b) _ _ (fields_met (ltb (length bs) 1) _ _) tt))))))

pub none_from_none : (bs : List ℕ) → record_of bs ≡ nothing → length bs ≡ 0
none_from_none [] e = refl
none_from_none (a ∷ []) e = absurd cc
none_from_none (a ∷ b ∷ bs) e = absurd (subst Met (sym (two_up a b bs) ∙ e) (marked_met a b bs))

-- a beginning is cut short
cut_from_parsed : (bs rest : List ℕ) (s : Said) (x : Parsed) → Bytes bs → 2 ≤ length bs → Fits s → 0 < length rest → encode s ≡ bs ++ rest → record_of bs ≡ x → x ≡ cut
cut_from_parsed bs rest s (order t n) h two fits some is e =
    let w = as_written bs t n h e in
    let split : encode s ++ [] ≡ encode t ++ (drop n bs ++ rest) = append-nil (encode s) ∙ is ∙ ap (λ (l : List ℕ). l ++ rest) w.1 ∙ append_assoc (encode t) (drop n bs) rest in
    let same : order s (length (encode s)) ≡ order t (length (encode t)) = sym (reads_one s [] fits) ∙ ap record_of split ∙ reads_one t (drop n bs ++ rest) w.0 in
    let len : length (encode s) ≡ length (encode t) = cc in
    absurd (omega (arith, ap length is, length-append bs rest, ap length w.1, length-append (encode t) (drop n bs)))
cut_from_parsed bs rest s nothing h two fits some is e = absurd (omega (arith, none_from_none bs e))
cut_from_parsed bs rest s cut h two fits some is e = refl
cut_from_parsed bs rest s unknown h two fits some is e =
    absurd ((strange_from_unknown bs e).1 s (sym (take-append-le 2 bs rest two) ∙ ap (take 2) (sym is)))

cut_lone : (bs : List ℕ) → length bs ≡ 1 → record_of bs ≡ cut
cut_lone [] e = absurd (omega arith)
cut_lone (a ∷ []) e = refl
cut_lone (a ∷ b ∷ bs) e = absurd (omega arith)

pub cut_from_beginning : (bs : List ℕ) → Bytes bs → (length bs ≡ 1) ⊎ ((2 ≤ length bs) × Beginning bs) → record_of bs ≡ cut
cut_from_beginning bs h way =
    ⊎_elim
    (λ (lone : length bs ≡ 1). cut_lone bs lone)
    (λ (b : (2 ≤ length bs) × Beginning bs). cut_from_parsed bs b.1.1 b.1.0 (record_of bs) h b.0 b.1.2 b.1.3 b.1.4 refl)
    way
