-- Fronts of a text, and the lines and words that they cut off.
use Rattle.std.proofs.Common.{◌≡◌, ℕ, suc, ◌+◌, ◌-◌, ◌<◌, Bool, true, false, not, eqb, ltb, List, [], ◌∷◌, ◌++◌, length, take, drop, Option, Some, None, Bor, sym, refl, ap, ◌∙◌, append_assoc, append-nil, one-add, arith}
use Rattle.std.specs.List.{position, position_or_len, prefix_len}
use Rattle.std.specs.Option.{unwrap_or}
use Rattle.std.proofs.lemmas.Bool.{ltb-true, ltb-false}
use Rattle.std.proofs.lemmas.Option.{cond_some, none-some}
use Rattle.std.proofs.lemmas.Slice.{between_to_end}
use Rattle.std.proofs.lemmas.List.Recursion.{is_position_or_len}
use Rattle.std.proofs.lemmas.List.Sums.{prefix_len-le-length}
use Rattle.loads.proofs.Descent.{by_test}
use Rattle.load_text.specs.Lines.{before, CutAt, on_first, lines_of, ended, words_after, words_of}

-- q fails where p passes: the front by q ends at the first byte that passes p
module _ (p q : ℕ → Bool) (turned : (b : ℕ) → q b ≡ not (p b)) (xs : List ℕ) where
  front_is : prefix_len q xs ≡ position_or_len p xs
  front_is = is_position_or_len (prefix_len q) p refl (λ b bs. by_test (p b) (λ t. rw (turned b, t) refl) (λ f. rw (turned b, f) refl)) xs

  front_found : (i : ℕ) → position p xs ≡ Some i → (i ≡ prefix_len q xs) × (prefix_len q xs < length xs)
  front_found i at =
      let there = cond_some (ltb (position_or_len p xs) (length xs)) (position_or_len p xs) i at in
      (sym (front_is ∙ there.1), omega (arith, front_is, ltb-true _ _ there.0))

  pub front_all : position p xs ≡ None → prefix_len q xs ≡ length xs
  front_all at =
      by_test (ltb (position_or_len p xs) (length xs))
      (λ t. absurd (none-some (position_or_len p xs) (sym at ∙ rw t refl)))
      (λ f. omega (arith, front_is, ltb-false _ _ f, prefix_len-le-length q xs))

  front_or_all : unwrap_or (position p xs) (length xs) ≡ prefix_len q xs
  front_or_all =
      by_test (ltb (position_or_len p xs) (length xs))
      (λ t. rw t (sym front_is))
      (λ f. rw f (omega (arith, front_is, ltb-false _ _ f, prefix_len-le-length q xs)))

abbrev in_line : ℕ → Bool
in_line b = not (eqb b 10)

-- a text with no line feed is one line
last_line : (bs : List ℕ) → prefix_len in_line bs ≡ length bs → (b : ℕ) → on_first b (lines_of bs) ≡ (b ∷ bs) ∷ []
last_line [] all b = refl
last_line (c ∷ cs) all b =
    by_test (eqb c 10)
    (λ t. absurd (omega (arith, rw t at all)))
    (λ f. rw f (ap (on_first b) (last_line cs (omega (arith, rw f at all)) c)))

pub only_line : (xs : List ℕ) → 0 < length xs → prefix_len in_line xs ≡ length xs → lines_of xs ≡ xs ∷ []
only_line [] some all = absurd (omega arith)
only_line (b ∷ bs) some all =
    by_test (eqb b 10)
    (λ t. absurd (omega (arith, rw t at all)))
    (λ f. rw f (last_line bs (omega (arith, rw f at all)) b))

-- a line feed ends the first line
pub first_line : (xs : List ℕ) → prefix_len in_line xs < length xs → lines_of xs ≡ take (prefix_len in_line xs) xs ∷ lines_of (drop (prefix_len in_line xs + 1) xs)
first_line [] l = absurd (omega arith)
first_line (b ∷ bs) l =
    by_test (eqb b 10)
    (λ t. rw t refl)
    (λ f. let k = prefix_len in_line bs in
    let one : 1 + k ≡ suc k = one-add k in
    let two : 1 + k + 1 ≡ suc (k + 1) = omega arith in
    rw (f, two, one) (ap (on_first b) (first_line bs (omega (arith, rw f at l)))))

abbrev is_space : ℕ → Bool
is_space b = eqb b 32

abbrev in_word : ℕ → Bool
in_word b = not (eqb b 32)

leading_yes : (p : ℕ → Bool) (b : ℕ) (bs : List ℕ) → p b ≡ true → prefix_len p (b ∷ bs) ≡ suc (prefix_len p bs)
leading_yes p b bs t = rw t (one-add (prefix_len p bs))

leading_no : (p : ℕ → Bool) (b : ℕ) (bs : List ℕ) → p b ≡ false → prefix_len p (b ∷ bs) ≡ 0
leading_no p b bs f = rw f refl

space_ends : (begun : List ℕ) (b : ℕ) (bs : List ℕ) → is_space b ≡ true → words_after begun (b ∷ bs) ≡ ended begun ++ words_of bs
space_ends begun b bs t = rw t refl

byte_goes_on : (begun : List ℕ) (b : ℕ) (bs : List ℕ) → is_space b ≡ false → words_after begun (b ∷ bs) ≡ words_after (begun ++ (b ∷ [])) bs
byte_goes_on begun b bs f = rw f refl

-- a word begun goes on to the next space
run : (xs begun : List ℕ) → words_after begun xs ≡ ended (begun ++ take (prefix_len in_word xs) xs) ++ words_of (drop (prefix_len in_word xs) xs)
run [] begun = simp append-nil
run (b ∷ bs) begun =
    by_test (is_space b)
    (λ t. rw (leading_no in_word b bs (ap not t))
    (space_ends begun b bs t ∙ sym (ap (λ (zs : List (List ℕ)). ended (begun ++ []) ++ zs) (space_ends [] b bs t) ∙ ap (λ (ys : List ℕ). ended ys ++ words_of bs) (append-nil begun))))
    (λ f. rw (leading_yes in_word b bs (ap not f))
    (byte_goes_on begun b bs f ∙ run bs (begun ++ (b ∷ [])) ∙ ap (λ (ys : List ℕ). ended ys ++ words_of (drop (prefix_len in_word bs) bs)) (append_assoc begun (b ∷ []) (take (prefix_len in_word bs) bs))))

pub no_word : (xs : List ℕ) → prefix_len is_space xs ≡ length xs → words_of xs ≡ []
no_word [] all = refl
no_word (b ∷ bs) all =
    by_test (is_space b)
    (λ t. space_ends [] b bs t ∙ no_word bs (omega (arith, all, leading_yes is_space b bs t)))
    (λ f. absurd (omega (arith, all, leading_no is_space b bs f)))

-- what follows the spaces in front
abbrev pub begins : List ℕ → List ℕ
begins xs = drop (prefix_len is_space xs) xs

pub first_word : (xs : List ℕ) → prefix_len is_space xs < length xs → (words_of xs ≡ take (prefix_len in_word (begins xs)) (begins xs) ∷ words_of (drop (prefix_len in_word (begins xs)) (begins xs))) × (0 < prefix_len in_word (begins xs))
first_word [] l = absurd (omega arith)
first_word (b ∷ bs) l =
    by_test (is_space b)
    (λ t. rw (leading_yes is_space b bs t)
    (let rest = first_word bs (omega (arith, l, leading_yes is_space b bs t)) in (space_ends [] b bs t ∙ rest.0, rest.1)))
    (λ f. rw (leading_no is_space b bs f) (rw (leading_yes in_word b bs (ap not f)) (byte_goes_on [] b bs f ∙ run bs (b ∷ []), omega arith)))

-- the same, of the parts as code cuts them
part_to_end : (xs : List ℕ) (i : ℕ) → take (length xs - i) (drop i xs) ≡ drop i xs
part_to_end xs i = between_to_end xs i (length xs) (omega arith)

pub cut_none : (byte : ℕ) (xs : List ℕ) → position (λ b. eqb b byte) xs ≡ None → before byte xs ≡ length xs
cut_none byte xs at = front_all (λ b. eqb b byte) (λ b. not (eqb b byte)) (λ b. refl) xs at

pub cut_there : (byte : ℕ) (xs : List ℕ) (i : ℕ) → position (λ b. eqb b byte) xs ≡ Some i
    → (before byte xs < length xs) × (take i xs ≡ take (before byte xs) xs) × (take (length xs - (i + 1)) (drop (i + 1) xs) ≡ drop (before byte xs + 1) xs)
cut_there byte xs i at =
    let found = front_found (λ b. eqb b byte) (λ b. not (eqb b byte)) (λ b. refl) xs i at in
    (found.1, ap (λ n. take n xs) found.0, part_to_end xs (i + 1) ∙ ap (λ n. drop (n + 1) xs) found.0)

-- a line and the rest, from a cut at a line feed or else all of the text
pub line_cut : (xs : List ℕ) (o : Option (Bor (List ℕ) × Bor (List ℕ))) (all end : Bor (List ℕ)) → CutAt 10 xs o → (length xs ≡ 0 → ⊥) → all.now ≡ xs → end.now ≡ []
    → lines_of xs ≡ (unwrap_or o (all, end)).0.now ∷ lines_of (unwrap_or o (all, end)).1.now
line_cut xs None all end cut some whole rest = rw (whole, rest) (only_line xs (omega (arith, some)) cut)
line_cut xs (Some c) all end cut some whole rest = rw (cut.1, cut.2) (first_line xs cut.0)

-- a line of spaces has no word
pub words_none : (xs : List ℕ) → position (λ b. not (eqb b 32)) xs ≡ None → words_of xs ≡ []
words_none xs at = no_word xs (front_all (λ b. not (eqb b 32)) is_space (λ b. by_test (eqb b 32) (λ t. rw t refl) (λ f. rw f refl)) xs at)

-- a word and the rest
pub word_cut : (xs word rest : List ℕ) (i : ℕ) → position (λ b. not (eqb b 32)) xs ≡ Some i
    → word ≡ take (unwrap_or (position is_space (take (length xs - i) (drop i xs))) (length (take (length xs - i) (drop i xs)))) (take (length xs - i) (drop i xs))
    → rest ≡ drop (unwrap_or (position is_space (take (length xs - i) (drop i xs))) (length (take (length xs - i) (drop i xs)))) (take (length xs - i) (drop i xs))
    → words_of xs ≡ word ∷ words_of rest
word_cut xs word rest i at w r =
    let found = front_found (λ b. not (eqb b 32)) is_space (λ b. by_test (eqb b 32) (λ t. rw t refl) (λ f. rw f refl)) xs i at in
    let begun : take (length xs - i) (drop i xs) ≡ begins xs = part_to_end xs i ∙ ap (λ n. drop n xs) found.0 in
    let end = front_or_all is_space in_word (λ b. refl) (begins xs) in
    rw (w, r, begun, end) (first_word xs found.1).0
