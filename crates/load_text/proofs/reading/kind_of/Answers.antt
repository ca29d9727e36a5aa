use Rattle.std.proofs.Common.{rules, arith, ◌≡◌, ◌<◌, ◌≤◌, List, ℕ, [], ◌∷◌, length, get_or, refl, ◌∙◌}
use Rattle.load_text.proofs.reading.kind_of.Goals as goal

-- a list of six, by its elements
six_bytes : (xs : List ℕ) (a b c d e f : ℕ) → 6 ≤ length xs → length xs < 7 → get_or xs 0 0 ≡ a → get_or xs 1 0 ≡ b → get_or xs 2 0 ≡ c → get_or xs 3 0 ≡ d → get_or xs 4 0 ≡ e → get_or xs 5 0 ≡ f → xs ≡ a ∷ b ∷ c ∷ d ∷ e ∷ f ∷ []
six_bytes [] a b c d e f low high p q r s t u = absurd (omega (arith, low))
six_bytes (x0 ∷ []) a b c d e f low high p q r s t u = absurd (omega (arith, low))
six_bytes (x0 ∷ x1 ∷ []) a b c d e f low high p q r s t u = absurd (omega (arith, low))
six_bytes (x0 ∷ x1 ∷ x2 ∷ []) a b c d e f low high p q r s t u = absurd (omega (arith, low))
six_bytes (x0 ∷ x1 ∷ x2 ∷ x3 ∷ []) a b c d e f low high p q r s t u = absurd (omega (arith, low))
six_bytes (x0 ∷ x1 ∷ x2 ∷ x3 ∷ x4 ∷ []) a b c d e f low high p q r s t u = absurd (omega (arith, low))
six_bytes (x0 ∷ x1 ∷ x2 ∷ x3 ∷ x4 ∷ x5 ∷ []) a b c d e f low high p q r s t u = rw (p, q, r, s, t, u) refl
six_bytes (x0 ∷ x1 ∷ x2 ∷ x3 ∷ x4 ∷ x5 ∷ x6 ∷ xs) a b c d e f low high p q r s t u = absurd (omega (arith, high))

pub returns-in-points-None : goal.returns-in-points-None
returns-in-points-None c =
    let word : c.in_ok-next.field-0.now ≡ 112 ∷ 111 ∷ 105 ∷ 110 ∷ 116 ∷ 115 ∷ [] = search (rules, six_bytes) in
    c.in_ok-next.ensures.steps ∙ rw (word, c.in-points-None.ensures.steps.0) refl
