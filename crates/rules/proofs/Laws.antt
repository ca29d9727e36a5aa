-- The laws of support, as `support_stands` carries them.
use Rattle.rules.specs.Support.{BestDecides, SupportGrows, OncePerRule}
use Rattle.rules.proofs.Best.{meets_needs, meets_suffices, left_needs, left_suffices, right_needs, right_suffices}
use Rattle.rules.proofs.OnePass.{supported_mono, left_down, right_up, lowest_left, highest_right, stands}

pub best_decides : BestDecides
best_decides = λ F q lo hi ends far. record {
  meets = (λ m. meets_needs F q lo hi ends m.0 m.1 m.2, λ n. meets_suffices F q lo hi ends far n);
  left = λ c r m. (left_needs F q lo hi ends c r m, λ h. left_suffices F q lo hi ends c r far m h.0 h.1);
  right = λ c r m. (right_needs F q lo hi ends c r m, λ h. right_suffices F q lo hi ends c r far m h.0 h.1);
  left_down = left_down F q lo hi ends far;
  right_up = right_up F q lo hi ends far;
  lowest = λ n. lowest_left F q lo hi ends far n;
  highest = λ n. highest_right F q lo hi ends far n;
}

pub support_grows : SupportGrows
support_grows = supported_mono

pub once_per_rule : OncePerRule
once_per_rule = λ F q lo hi ends far n G only all. stands F q lo hi ends far n G only all
