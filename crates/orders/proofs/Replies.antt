-- The laws of answer records and of the closing record.
use Rattle.std.proofs.Common.{◌≡◌, ℕ, ◌+◌, ◌*◌, ◌/◌, ◌%◌, ◌^◌, ◌<◌, true, cond, eqb, ltb, List, [], ◌∷◌, length, get_or, drop, Some, None, Option, sym, refl, ap, ◌∙◌, subst, mod-eq_of_lt, arith}
use Rattle.std.proofs.lemmas.Bool.{cond_both, cond-true, lt-ltb, ltb-true, eqb-true}
use Rattle.orders.specs.Marks.{OK, NO, is_mark, four, six, in_four, in_six}
use Rattle.orders.specs.Format.{Bytes}
use Rattle.orders.specs.Answers.{Reply, answered, refused, ReplyFits, reply_bytes, closing_bytes, reply_of, AnswerFormat}
use Rattle.orders.proofs.Digits.{four_of, six_of, in_six_lem}
use Rattle.orders.proofs.Written.{is_mark_lem}

abbrev Says : List ℕ → Option Reply → Type 0
Says bs (Some a) = ReplyFits a × (bs ≡ reply_bytes a)
Says bs None = Unit {0}

-- what eight bytes say, by their mark
abbrev eight_of : ℕ → ℕ → ℕ → Option Reply
eight_of x y v = cond (is_mark OK x y) (Some (answered v)) (cond (is_mark NO x y) (cond (ltb v 256) (Some (refused v)) None) None)

six_below : (a b c d e f : ℕ) → Bytes (a ∷ b ∷ c ∷ d ∷ e ∷ f ∷ []) → six (a ∷ b ∷ c ∷ d ∷ e ∷ f ∷ []) < 2 ^ 48
six_below a b c d e f h = omega (arith, h.0, h.1.0, h.1.1.0, h.1.1.1.0, h.1.1.1.1.0, h.1.1.1.1.1.0)

says_eight : (x y a b c d e f : ℕ) → Bytes (x ∷ y ∷ a ∷ b ∷ c ∷ d ∷ e ∷ f ∷ []) →
    Says (x ∷ y ∷ a ∷ b ∷ c ∷ d ∷ e ∷ f ∷ []) (eight_of x y (six (a ∷ b ∷ c ∷ d ∷ e ∷ f ∷ [])))
says_eight x y a b c d e f h =
    let bs : List ℕ = x ∷ y ∷ a ∷ b ∷ c ∷ d ∷ e ∷ f ∷ [] in
    let k = h.1.1 in
    let v : ℕ = six (a ∷ b ∷ c ∷ d ∷ e ∷ f ∷ []) in
    let back : a ∷ b ∷ c ∷ d ∷ e ∷ f ∷ [] ≡ in_six v = sym (in_six_lem a b c d e f k.0 k.1.0 k.1.1.0 k.1.1.1.0 k.1.1.1.1.0 k.1.1.1.1.1.0) in
    let starts : (m n : ℕ) → (x ≡ m) × (y ≡ n) → bs ≡ m ∷ n ∷ in_six v =
    λ m n s. ap (λ (z : ℕ). z ∷ y ∷ a ∷ b ∷ c ∷ d ∷ e ∷ f ∷ []) s.0 ∙ ap (λ (z : ℕ). m ∷ z ∷ a ∷ b ∷ c ∷ d ∷ e ∷ f ∷ []) s.1 ∙ ap (λ (l : List ℕ). m ∷ n ∷ l) back in
    let refusal : Option Reply = cond (ltb v 256) (Some (refused v)) None in
    cond_both (is_mark OK x y) (Some (answered v)) (cond (is_mark NO x y) refusal None) (Says bs)
    (λ t. (six_below a b c d e f k, starts 79 75 (is_mark_lem 79 75 x y t)))
    (λ _. cond_both (is_mark NO x y) refusal None (Says bs)
    (λ t. cond_both (ltb v 256) (Some (refused v)) None (Says bs) (λ less. (ltb-true v 256 less, starts 78 79 (is_mark_lem 78 79 x y t))) (λ _. tt))
    (λ _. tt))

-- bytes of another length say nothing
says_long : (bs : List ℕ) → Bytes bs → length bs ≡ 8 → Says bs (eight_of (get_or bs 0 0) (get_or bs 1 0) (six (drop 2 bs)))
says_long [] h l = absurd (omega arith)
says_long (x ∷ []) h l = absurd (omega arith)
says_long (x ∷ y ∷ []) h l = absurd (omega arith)
says_long (x ∷ y ∷ a ∷ []) h l = absurd (omega arith)
says_long (x ∷ y ∷ a ∷ b ∷ []) h l = absurd (omega arith)
says_long (x ∷ y ∷ a ∷ b ∷ c ∷ []) h l = absurd (omega arith)
says_long (x ∷ y ∷ a ∷ b ∷ c ∷ d ∷ []) h l = absurd (omega arith)
says_long (x ∷ y ∷ a ∷ b ∷ c ∷ d ∷ e ∷ []) h l = absurd (omega arith)
says_long (x ∷ y ∷ a ∷ b ∷ c ∷ d ∷ e ∷ f ∷ []) h l = says_eight x y a b c d e f h
says_long (x ∷ y ∷ a ∷ b ∷ c ∷ d ∷ e ∷ f ∷ g ∷ bs) h l = absurd (omega arith)

says : (bs : List ℕ) → Bytes bs → Says bs (reply_of bs)
says bs h =
    cond_both (eqb (length bs) 8) (eight_of (get_or bs 0 0) (get_or bs 1 0) (six (drop 2 bs))) None (Says bs)
    (λ t. says_long bs h (eqb-true (length bs) 8 t)) (λ _. tt)

reads : (a : Reply) → ReplyFits a → reply_of (reply_bytes a) ≡ Some a
reads (answered v) h = ap (λ (w : ℕ). Some (answered w)) (six_of v [] h)
reads (refused n) h =
    let v : six (in_six n) ≡ n = six_of n [] (omega arith) in
    let less : ltb (six (in_six n)) 256 ≡ true = lt-ltb (six (in_six n)) 256 (omega (arith, v)) in
    cond-true (ltb (six (in_six n)) 256) (Some (refused (six (in_six n)))) None less ∙ ap (λ (w : ℕ). Some (refused w)) v

eight : (a : Reply) → length (reply_bytes a) ≡ 8
eight (answered v) = refl
eight (refused n) = refl

apart : (a : Reply) (n p : ℕ) → reply_bytes a ≡ closing_bytes n p → ⊥
apart (answered v) n p e = let z : ◌≡◌ {A = ℕ} 79 69 = cc in omega arith
apart (refused m) n p e = let z : ◌≡◌ {A = ℕ} 78 69 = cc in omega arith

-- a number from its bytes
two_back : (m : ℕ) → m < 2 ^ 16 → (m / 2 ^ 8 % 256) * 256 + m % 256 ≡ m
two_back m h =
    let low : m / 2 ^ 8 < 256 = omega arith in
    let top : m / 2 ^ 8 % 256 ≡ m / 2 ^ 8 = mod-eq_of_lt low in
    omega arith

closings : (m p n q : ℕ) → m < 2 ^ 16 → p < 2 ^ 32 → n < 2 ^ 16 → q < 2 ^ 32 → closing_bytes m p ≡ closing_bytes n q → (m ≡ n) × (p ≡ q)
closings m p n q hm hp hn hq e =
    let h1 : m / 2 ^ 8 % 256 ≡ n / 2 ^ 8 % 256 = cc in
    let h2 : m % 256 ≡ n % 256 = cc in
    let t : in_four p ≡ in_four q = cc in
    (omega (arith, two_back m hm, two_back n hn), sym (four_of p [] hp) ∙ ap four t ∙ four_of q [] hq)

pub answer_format : AnswerFormat
answer_format = record {
  eight = eight;
  closing_eight = λ n p. refl;
  read_back = λ bs a h. (λ e. subst (Says bs) e (says bs h), λ w. ap reply_of w.1 ∙ reads a w.0);
  one_reply = λ a b h k e. let s : Some a ≡ Some b = sym (reads a h) ∙ ap reply_of e ∙ reads b k in cc;
  one_closing = closings;
  apart = apart;
}
