-- What the word of an entry writes: points as a signed decimal number, a hand as class/year.
use Rattle.std.specs.Prelude.{◌≡◌, ℕ, ◌+◌, ◌^◌, ◌<◌, List, length, take, drop, ℤ, FitsSigned}
use Rattle.std.specs.Int.{w32}
use Rattle.std.specs.Str.Parse.{IsNumeral, digits_value, without_leading_plus, without_leading_sign, signed_digits_value}
use Rattle.load_text.specs.Lines.{before}
use Rattle.loads.specs.declared.kinds.Points.{Points}
use Rattle.loads.specs.declared.kinds.Hand.{Hand}

-- a plus or a minus or neither, then one decimal digit or more; within -2147483648 to 2147483647
pub record WritesInteger (word : List ℕ) (z : ℤ) : Type 0 where
  pub numeral : IsNumeral 10 (without_leading_sign word)
  pub fits : FitsSigned w32 (signed_digits_value 10 word)
  pub is : z ≡ signed_digits_value 10 word

-- a plus or nothing, then one decimal digit or more; below 2 ^ k
pub record WritesNumber (k : ℕ) (word : List ℕ) (n : ℕ) : Type 0 where
  pub numeral : IsNumeral 10 (without_leading_plus word)
  pub fits : digits_value 10 (without_leading_plus word) < 2 ^ k
  pub is : n ≡ digits_value 10 (without_leading_plus word)

abbrev pub WritesPoints : List ℕ → Points → Type 0
WritesPoints word p = WritesInteger word p.score

-- a class below 256, a stroke (47), a year below 65536
pub record WritesHand (word : List ℕ) (h : Hand) : Type 0 where
  pub stroke : before 47 word < length word
  pub class : WritesNumber 8 (take (before 47 word) word) h.class
  pub year : WritesNumber 16 (drop (before 47 word + 1) word) h.year
