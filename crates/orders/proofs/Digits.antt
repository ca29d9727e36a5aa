-- Numbers of four and six bytes, high byte first, there and back.
use Rattle.std.proofs.Common.{◌≡◌, ℕ, ◌+◌, ◌*◌, ◌/◌, ◌%◌, ◌^◌, ◌<◌, List, [], ◌∷◌, ◌++◌, mod-eq_of_lt, arith}
use native.Mathlib.Nat.{div-div-eq-div-mul}
use Rattle.orders.specs.Marks.{four, six, in_four, in_six}

pub four_of : (v : ℕ) (rest : List ℕ) → v < 2 ^ 32 → four (in_four v ++ rest) ≡ v
four_of v rest h =
    let d2 : v / 2 ^ 8 / 2 ^ 8 ≡ v / 2 ^ 16 = div-div-eq-div-mul v (2 ^ 8) (2 ^ 8) in
    let d3 : v / 2 ^ 16 / 2 ^ 8 ≡ v / 2 ^ 24 = div-div-eq-div-mul v (2 ^ 16) (2 ^ 8) in
    let low : v / 2 ^ 24 < 256 = omega arith in
    let top : v / 2 ^ 24 % 256 ≡ v / 2 ^ 24 = mod-eq_of_lt low in
    omega arith

pub in_four_lem : (a b c d : ℕ) → a < 256 → b < 256 → c < 256 → d < 256 → in_four (four (a ∷ b ∷ c ∷ d ∷ [])) ≡ a ∷ b ∷ c ∷ d ∷ []
in_four_lem a b c d ha hb hc hd =
    let e1 : (a * 2 ^ 24 + b * 2 ^ 16 + c * 2 ^ 8 + d) / 2 ^ 24 % 256 ≡ a = omega arith in
    let e2 : (a * 2 ^ 24 + b * 2 ^ 16 + c * 2 ^ 8 + d) / 2 ^ 16 % 256 ≡ b = omega arith in
    let e3 : (a * 2 ^ 24 + b * 2 ^ 16 + c * 2 ^ 8 + d) / 2 ^ 8 % 256 ≡ c = omega arith in
    let e4 : (a * 2 ^ 24 + b * 2 ^ 16 + c * 2 ^ 8 + d) % 256 ≡ d = omega arith in
    rw (e1, e2, e3, e4)

pub six_of : (v : ℕ) (rest : List ℕ) → v < 2 ^ 48 → six (in_six v ++ rest) ≡ v
six_of v rest h =
    let d2 : v / 2 ^ 8 / 2 ^ 8 ≡ v / 2 ^ 16 = div-div-eq-div-mul v (2 ^ 8) (2 ^ 8) in
    let d3 : v / 2 ^ 16 / 2 ^ 8 ≡ v / 2 ^ 24 = div-div-eq-div-mul v (2 ^ 16) (2 ^ 8) in
    let d4 : v / 2 ^ 24 / 2 ^ 8 ≡ v / 2 ^ 32 = div-div-eq-div-mul v (2 ^ 24) (2 ^ 8) in
    let d5 : v / 2 ^ 32 / 2 ^ 8 ≡ v / 2 ^ 40 = div-div-eq-div-mul v (2 ^ 32) (2 ^ 8) in
    let low : v / 2 ^ 40 < 256 = omega arith in
    let top : v / 2 ^ 40 % 256 ≡ v / 2 ^ 40 = mod-eq_of_lt low in
    omega arith

pub in_six_lem : (a b c d e f : ℕ) → a < 256 → b < 256 → c < 256 → d < 256 → e < 256 → f < 256 →
    in_six (six (a ∷ b ∷ c ∷ d ∷ e ∷ f ∷ [])) ≡ a ∷ b ∷ c ∷ d ∷ e ∷ f ∷ []
in_six_lem a b c d e f ha hb hc hd he hf =
    let e1 : (a * 2 ^ 40 + b * 2 ^ 32 + c * 2 ^ 24 + d * 2 ^ 16 + e * 2 ^ 8 + f) / 2 ^ 40 % 256 ≡ a = omega arith in
    let e2 : (a * 2 ^ 40 + b * 2 ^ 32 + c * 2 ^ 24 + d * 2 ^ 16 + e * 2 ^ 8 + f) / 2 ^ 32 % 256 ≡ b = omega arith in
    let e3 : (a * 2 ^ 40 + b * 2 ^ 32 + c * 2 ^ 24 + d * 2 ^ 16 + e * 2 ^ 8 + f) / 2 ^ 24 % 256 ≡ c = omega arith in
    let e4 : (a * 2 ^ 40 + b * 2 ^ 32 + c * 2 ^ 24 + d * 2 ^ 16 + e * 2 ^ 8 + f) / 2 ^ 16 % 256 ≡ d = omega arith in
    let e5 : (a * 2 ^ 40 + b * 2 ^ 32 + c * 2 ^ 24 + d * 2 ^ 16 + e * 2 ^ 8 + f) / 2 ^ 8 % 256 ≡ e = omega arith in
    let e6 : (a * 2 ^ 40 + b * 2 ^ 32 + c * 2 ^ 24 + d * 2 ^ 16 + e * 2 ^ 8 + f) % 256 ≡ f = omega arith in
    rw (e1, e2, e3, e4, e5, e6)
