-- Bytes read into a room, one part after another.
use Rattle.std.proofs.Common.{◌≡◌, ℕ, ◌+◌, ◌≤◌, List, ◌++◌, length, take, Option, Some, None, sym, ap, ◌∙◌, append_assoc, length-take-le}
use Rattle.std.proofs.Math.Seq.{take-append-add}
use Rattle.std.proofs.lemmas.List.{take-append-le}
use Rattle.std.specs.Io.KnownBytes.{Consumes}

-- what is taken after bs and then cs is bs ++ cs
pub both : (a b c : Option (List ℕ)) (bs cs : List ℕ) → Consumes a b bs → Consumes b c cs → Consumes a c (bs ++ cs)
both None b c bs cs p q = tt
both (Some x) None c bs cs p q = absurd p
both (Some x) (Some y) None bs cs p q = absurd q
both (Some x) (Some y) (Some z) bs cs p q = p ∙ ap (λ l. bs ++ l) q ∙ sym (append_assoc bs cs z)

-- the front of a list, of which a part from a on was replaced by ys
pub seam : (xs ys more : List ℕ) (a n : ℕ) → a ≤ length xs → n ≤ length ys → take a xs ++ take n ys ≡ take (a + n) (take a xs ++ (ys ++ more))
seam xs ys more a n p q =
    sym (ap (λ k. take (k + n) (take a xs ++ (ys ++ more))) (sym (length-take-le a xs p))
    ∙ take-append-add (take a xs) (ys ++ more) n
    ∙ ap (λ l. take a xs ++ l) (take-append-le n ys more q))
