-- The words that write numbers are ASCII, so a word that is no text writes none.
use Rattle.std.proofs.Common.{ℕ, eqb, List, [], ◌∷◌, length, IsUtf8, IsAscii, arith}
use Rattle.std.specs.Str.Parse.{AllDigits, IsNumeral, without_leading_plus, without_leading_sign}
use Rattle.std.proofs.lemmas.Str.Ascii.{IsAscii-nil, IsAscii-cons, IsAscii-from_reads}
use Rattle.std.proofs.lemmas.Str.Parse.{digit_at}
use Rattle.std.proofs.lemmas.Bool.{eqb-true}
use Rattle.std.proofs.lemmas.Str.{IsUtf8-from_ascii}
use Rattle.loads.proofs.Descent.{by_test}

digits_ascii : (ds : List ℕ) → AllDigits 10 ds → IsAscii ds
digits_ascii ds h = IsAscii-from_reads ds (length ds) (omega arith) (λ k l. omega (arith, digit_at ds k h l))

plus_ascii : (b : ℕ) (bs : List ℕ) → AllDigits 10 (without_leading_plus (b ∷ bs)) → IsAscii (b ∷ bs)
plus_ascii b bs h =
    by_test (eqb b 43)
    (λ t. IsAscii-cons b bs (omega (arith, eqb-true b 43 t)) (digits_ascii bs (rw t at h)))
    (λ f. digits_ascii (b ∷ bs) (rw f at h))

pub unsigned_utf8 : (word : List ℕ) → IsNumeral 10 (without_leading_plus word) → IsUtf8 word
unsigned_utf8 [] h = IsUtf8-from_ascii [] IsAscii-nil
unsigned_utf8 (b ∷ bs) h = IsUtf8-from_ascii (b ∷ bs) (plus_ascii b bs h.1)

pub signed_utf8 : (word : List ℕ) → IsNumeral 10 (without_leading_sign word) → IsUtf8 word
signed_utf8 [] h = IsUtf8-from_ascii [] IsAscii-nil
signed_utf8 (b ∷ bs) h =
    IsUtf8-from_ascii (b ∷ bs)
    (by_test (eqb b 45)
    (λ t. IsAscii-cons b bs (omega (arith, eqb-true b 45 t)) (digits_ascii bs (rw t at h).1))
    (λ f. plus_ascii b bs (rw f at h).1))
