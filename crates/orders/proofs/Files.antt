-- The laws of the format.
use Rattle.std.proofs.Common.{◌≡◌, ℕ, zero, suc, ◌+◌, ◌-◌, ◌<◌, ◌≤◌, ◌⊎◌, List, [], ◌∷◌, ◌++◌, length, take, drop, sym, refl, ap, ◌∙◌, subst, inl, inr, ⊎_elim, arith, length-append, length-drop}
use Rattle.std.specs.List.{AllByRecursion}
use Rattle.std.proofs.lemmas.List.{append_assoc, append-nil, take-append-drop, drop-drop, drop_at, take_at, nil_from_length, drop_all, length-take-le}
use Rattle.std.proofs.ByRecursion.{All-drop}
use Rattle.orders.specs.Said.{Said, lay_out, limit, post, start, undo, keep, read}
use Rattle.orders.specs.Parse.{Parsed, order, nothing, cut, unknown, record_of, parse, Next, ended, found, faulty, answer_at, onward_from, next_of, place_after}
use Rattle.orders.specs.Format.{encode, encodings, Bytes, Fits, Strange, Beginning, Faulty, Ending, whole, broken, Reads, done, fault, more, Format}
use Rattle.orders.proofs.Written.{Written, written, reads_one}
use Rattle.orders.proofs.Faults.{strange_from_unknown, unknown_from_strange, beginning_from_cut, cut_from_beginning, none_from_none}

-- one order of a file
abbrev pub Taken : List ℕ → ℕ → Said → ℕ → Type 0
Taken fs p s q = Fits s × (drop p fs ≡ encode s ++ drop q fs) × (q ≡ p + length (encode s))

taken_from : (fs : List ℕ) (p : ℕ) (s : Said) (x : Parsed) → Written (drop p fs) x → answer_at p x ≡ found s → Taken fs p s (onward_from p x)
taken_from fs p s (order t n) w e =
    let same : t ≡ s = cc in
    let on : drop n (drop p fs) ≡ drop (p + n) fs = drop-drop n p fs in
    let is : Taken fs p t (p + n) = (w.0, w.1 ∙ ap (λ (l : List ℕ). encode t ++ l) on, ap (λ (k : ℕ). p + k) w.2) in
    subst (λ (v : Said). Taken fs p v (p + n)) same is
taken_from fs p s nothing w e = absurd cc
taken_from fs p s cut w e = absurd cc
taken_from fs p s unknown w e = absurd cc

pub taken : (fs : List ℕ) (p : ℕ) (s : Said) → Bytes fs → next_of fs p ≡ found s → Taken fs p s (place_after fs p)
unfolding parse
taken fs p s h e = taken_from fs p s (record_of (drop p fs)) (written (drop p fs) (All-drop (λ b. b < 256) p fs h)) e

takes : (fs : List ℕ) (p : ℕ) (s : Said) (rest : List ℕ) → Fits s → drop p fs ≡ encode s ++ rest → (next_of fs p ≡ found s) × (place_after fs p ≡ p + length (encode s))
unfolding parse
takes fs p s rest h e =
    let o : record_of (drop p fs) ≡ order s (length (encode s)) = ap record_of e ∙ reads_one s rest h in
    (ap (answer_at p) o, ap (onward_from p) o)

-- the end of a file
end_from : (fs : List ℕ) (p : ℕ) (x : Parsed) → record_of (drop p fs) ≡ x → answer_at p x ≡ ended → length (drop p fs) ≡ 0
end_from fs p (order s n) i e = absurd cc
end_from fs p nothing i e = none_from_none (drop p fs) i
end_from fs p cut i e = absurd cc
end_from fs p unknown i e = absurd cc

at_end : (fs : List ℕ) (p : ℕ) → next_of fs p ≡ ended → length (drop p fs) ≡ 0
unfolding parse
at_end fs p e = end_from fs p (record_of (drop p fs)) refl e

ends : (fs : List ℕ) (p : ℕ) → drop p fs ≡ [] → next_of fs p ≡ ended
unfolding parse
ends fs p e = ap (λ (l : List ℕ). answer_at p (record_of l)) e

-- a fault
fault_from : (fs : List ℕ) (p k q : ℕ) (x : Parsed) → Bytes (drop p fs) → record_of (drop p fs) ≡ x → answer_at p x ≡ faulty k q → (q ≡ p) × Faulty k (drop p fs)
fault_from fs p k q (order s n) h i e = absurd cc
fault_from fs p k q nothing h i e = absurd cc
fault_from fs p k q cut h i e = let a : q ≡ p = cc in let b : k ≡ 15 = cc in (a, inr (b, beginning_from_cut (drop p fs) h i))
fault_from fs p k q unknown h i e = let a : q ≡ p = cc in let b : k ≡ 14 = cc in (a, inl (b, strange_from_unknown (drop p fs) i))

at_fault : (fs : List ℕ) (p k q : ℕ) → Bytes fs → next_of fs p ≡ faulty k q → (q ≡ p) × Faulty k (drop p fs)
unfolding parse
at_fault fs p k q h e = fault_from fs p k q (record_of (drop p fs)) (All-drop (λ b. b < 256) p fs h) refl e

faults : (fs : List ℕ) (p k : ℕ) → Bytes fs → Faulty k (drop p fs) → next_of fs p ≡ faulty k p
unfolding parse
faults fs p k h way =
    ⊎_elim
    (λ (a : (k ≡ 14) × Strange (drop p fs)). ap (answer_at p) (unknown_from_strange (drop p fs) a.1) ∙ ap (λ (n : ℕ). faulty n p) (sym a.0))
    (λ (a : (k ≡ 15) × ((length (drop p fs) ≡ 1) ⊎ ((2 ≤ length (drop p fs)) × Beginning (drop p fs)))).
    ap (answer_at p) (cut_from_beginning (drop p fs) (All-drop (λ b. b < 256) p fs h) a.1) ∙ ap (λ (n : ℕ). faulty n p) (sym a.0))
    way

-- orders whose records stand at p, and then whatever is read after them
reads_from : (fs : List ℕ) (p : ℕ) (ss : List Said) (rest : List ℕ) (e : Ending) → AllByRecursion Fits ss → drop p fs ≡ encodings ss ++ rest → Reads fs (p + length (encodings ss)) [] e → Reads fs p ss e
reads_from fs p [] rest e h is r = let z : p + 0 ≡ p = omega arith in subst (λ (k : ℕ). Reads fs k [] e) z r
reads_from fs p (s ∷ ss) rest e h is r =
    let split : drop p fs ≡ encode s ++ (encodings ss ++ rest) = is ∙ append_assoc (encode s) (encodings ss) rest in
    let t = takes fs p s (encodings ss ++ rest) h.0 split in
    let n : ℕ = length (encode s) in
    let on : drop (p + n) fs ≡ encodings ss ++ rest = sym (drop-drop n p fs) ∙ ap (drop n) split ∙ drop_at (encode s) (encodings ss ++ rest) n refl in
    let far : p + length (encode s ++ encodings ss) ≡ p + n + length (encodings ss) = omega (arith, length-append (encode s) (encodings ss)) in
    let tail : Reads fs (p + n) ss e = reads_from fs (p + n) ss rest e h.1 on (subst (λ (k : ℕ). Reads fs k [] e) far r) in
    more t.0 (subst (λ (k : ℕ). Reads fs k ss e) (sym t.1) tail)

-- what was read from p on stands there
abbrev Stood : List ℕ → ℕ → List Said → Ending → Type 0
Stood fs p ss e = AllByRecursion Fits ss × (drop p fs ≡ encodings ss ++ drop (p + length (encodings ss)) fs) × Reads fs (p + length (encodings ss)) [] e

stood_none : (fs : List ℕ) (p : ℕ) (e : Ending) → Reads fs p [] e → Stood fs p [] e
stood_none fs p e r =
    let z : p ≡ p + 0 = omega arith in
    (tt, ap (λ (k : ℕ). drop k fs) z, subst (λ (k : ℕ). Reads fs k [] e) z r)

stood : (fs : List ℕ) (p : ℕ) (ss : List Said) (e : Ending) → Bytes fs → Reads fs p ss e → Stood fs p ss e
stood fs p [] e h r = stood_none fs p e r
stood fs p (s ∷ ss) e h (more n r) =
    let t = taken fs p s h n in
    let i = stood fs (place_after fs p) ss e h r in
    let q : ℕ = place_after fs p in
    let far : q + length (encodings ss) ≡ p + length (encode s ++ encodings ss) = omega (arith, t.2, length-append (encode s) (encodings ss)) in (
      (t.0, i.0),
      t.1 ∙ ap (λ (l : List ℕ). encode s ++ l) i.1 ∙ sym (append_assoc (encode s) (encodings ss) (drop (q + length (encodings ss)) fs)) ∙
          ap (λ (k : ℕ). (encode s ++ encodings ss) ++ drop k fs) far,
      subst (λ (k : ℕ). Reads fs k [] e) far i.2,
    )

whole_end : (fs : List ℕ) (p e : ℕ) → Reads fs p [] (whole e) → (next_of fs p ≡ ended) × (e ≡ p)
whole_end fs p e (done n) = (n, refl)

broken_end : (fs : List ℕ) (p k q : ℕ) → Reads fs p [] (broken k q) → next_of fs p ≡ faulty k q
broken_end fs p k q (fault n) = n

whole_read : (fs : List ℕ) (ss : List Said) (e : ℕ) → Bytes fs → Reads fs 0 ss (whole e) → AllByRecursion Fits ss × (fs ≡ encodings ss) × (e ≡ length fs)
whole_read fs ss e h r =
    let st = stood fs 0 ss (whole e) h r in
    let q : ℕ = 0 + length (encodings ss) in
    let w = whole_end fs q e st.2 in
    let none : drop q fs ≡ [] = nil_from_length (drop q fs) (at_end fs q w.0) in
    let is : fs ≡ encodings ss = st.1 ∙ ap (λ (l : List ℕ). encodings ss ++ l) none ∙ append-nil (encodings ss) in
    (st.0, is, omega (arith, w.1, ap length is))

whole_written : (fs : List ℕ) (ss : List Said) (e : ℕ) → AllByRecursion Fits ss → fs ≡ encodings ss → e ≡ length fs → Reads fs 0 ss (whole e)
whole_written fs ss e h is len =
    let q : ℕ = 0 + length (encodings ss) in
    let same : q ≡ e = omega (arith, ap length is) in
    let none : drop e fs ≡ [] = drop_all e fs (omega arith) in
    let stop : Reads fs q [] (whole e) = subst (λ (k : ℕ). Reads fs k [] (whole e)) (sym same) (done (ends fs e none)) in
    reads_from fs 0 ss [] (whole e) h (is ∙ sym (append-nil (encodings ss))) stop

broken_read : (fs : List ℕ) (ss : List Said) (k p : ℕ) → Bytes fs → Reads fs 0 ss (broken k p) → AllByRecursion Fits ss × (take p fs ≡ encodings ss) × (p ≤ length fs) × Faulty k (drop p fs)
broken_read fs ss k p h r =
    let st = stood fs 0 ss (broken k p) h r in
    let q : ℕ = 0 + length (encodings ss) in
    let f = at_fault fs q k p h (broken_end fs q k p st.2) in
    let len : length (encodings ss) ≡ p = omega (arith, f.0) in (
      st.0,
      ap (take p) st.1 ∙ take_at (encodings ss) (drop q fs) p len,
      omega (arith, ap length st.1, length-append (encodings ss) (drop q fs)),
      subst (λ (n : ℕ). Faulty k (drop n fs)) (sym f.0) f.1,
    )

broken_written : (fs : List ℕ) (ss : List Said) (k p : ℕ) → Bytes fs → AllByRecursion Fits ss → take p fs ≡ encodings ss → p ≤ length fs → Faulty k (drop p fs) → Reads fs 0 ss (broken k p)
broken_written fs ss k p h fits is within f =
    let q : ℕ = 0 + length (encodings ss) in
    let same : q ≡ p = omega (arith, ap length is, length-take-le p fs within) in
    let stop : Reads fs q [] (broken k p) = subst (λ (n : ℕ). Reads fs n [] (broken k p)) (sym same) (fault (faults fs p k h f)) in
    reads_from fs 0 ss (drop p fs) (broken k p) fits (sym (take-append-drop p fs) ∙ ap (λ (l : List ℕ). l ++ drop p fs) is) stop

-- one reading from each place
one : (fs : List ℕ) (p : ℕ) (ss ts : List Said) (d e : Ending) → Reads fs p ss d → Reads fs p ts e → (ss ≡ ts) × (d ≡ e)
one fs p [] [] d e (done n) (done m) = (refl, refl)
one fs p [] [] d e (done n) (fault m) = absurd cc
one fs p [] [] d e (fault n) (done m) = absurd cc
one fs p [] [] d e (fault n) (fault m) = let same : d ≡ e = cc in (refl, same)
one fs p [] (t ∷ ts) d e (done n) (more m s) = absurd cc
one fs p [] (t ∷ ts) d e (fault n) (more m s) = absurd cc
one fs p (s ∷ ss) [] d e (more n r) (done m) = absurd cc
one fs p (s ∷ ss) [] d e (more n r) (fault m) = absurd cc
one fs p (s ∷ ss) (t ∷ ts) d e (more n r) (more m q) =
    let i = one fs (place_after fs p) ss ts d e r q in
    let first : s ≡ t = cc in
    let rest : ss ≡ ts = i.0 in
    let both : s ∷ ss ≡ t ∷ ts = cc in
    (both, i.1)

-- a reading from each place, by the bytes that are left
some_next : (fs : List ℕ) (p : ℕ) (x : Next) → next_of fs p ≡ x → (next_of fs p ≡ ended) ⊎ (((s : Said) × (next_of fs p ≡ found s)) ⊎ ((k : ℕ) × (q : ℕ) × (next_of fs p ≡ faulty k q)))
some_next fs p ended e = inl e
some_next fs p (found s) e = inr (inl (s, e))
some_next fs p (faulty k q) e = inr (inr (k, q, e))

long : (s : Said) → 2 ≤ length (encode s)
long (lay_out n d) = omega arith
long (limit n v) = omega arith
long (post l r) = omega arith
long start = omega arith
long (undo t) = omega arith
long (keep t) = omega arith
long (read n) = omega arith

somehow : (n : ℕ) (fs : List ℕ) (p : ℕ) → Bytes fs → p ≤ length fs → length fs - p < n → (ss : List Said) × (e : Ending) × Reads fs p ss e
somehow zero fs p h within less = absurd (omega arith)
somehow (suc n) fs p h within less =
    ⊎_elim
    (λ (e : next_of fs p ≡ ended). ([], whole p, done e))
    (λ (w : ((s : Said) × (next_of fs p ≡ found s)) ⊎ ((k : ℕ) × (q : ℕ) × (next_of fs p ≡ faulty k q))).
    ⊎_elim
    (λ (f : (s : Said) × (next_of fs p ≡ found s)).
    let t = taken fs p f.0 h f.1 in
    let q : ℕ = place_after fs p in
    let len = ap length t.1 in
    let on : q ≤ length fs = omega (arith, t.2, long f.0, len, length-append (encode f.0) (drop q fs), length-drop p fs, length-drop q fs) in
    let i = somehow n fs q h on (omega (arith, t.2, long f.0)) in
    (f.0 ∷ i.0, i.1, more {p = p} {s = f.0} {ss = i.0} {e = i.1} f.1 i.2))
    (λ (f : (k : ℕ) × (q : ℕ) × (next_of fs p ≡ faulty k q)). ([], broken f.0 f.1, fault f.2))
    w)
    (some_next fs p (next_of fs p) refl)

pub format : Format
format = record {
  whole_file = λ fs ss e h. (whole_read fs ss e h, λ w. whole_written fs ss e w.0 w.1 w.2);
  broken_file = λ fs ss k p h. (broken_read fs ss k p h, λ w. broken_written fs ss k p h w.0 w.1 w.2 w.3);
  reads_back = λ ss h. whole_written (encodings ss) ss (length (encodings ss)) h refl refl;
  one_meaning = λ ss ts h k e. (one (encodings ss) 0 ss ts (whole (length (encodings ss))) (whole (length (encodings ss))) (whole_written (encodings ss) ss (length (encodings ss)) h refl refl) (whole_written (encodings ss) ts (length (encodings ss)) k e refl)).0;
  read_somehow = λ fs h. somehow (length fs + 1) fs 0 h (omega arith) (omega arith);
  one_reading = λ fs ss ts d e r q. one fs 0 ss ts d e r q;
}
