use Rattle.load_text.proofs.Writing.{signed_utf8}
use Rattle.load_text.proofs.entries.PointsEntry.parse.Goals as goal

pub returns-in_err-score : goal.returns-in_err-score
returns-in_err-score c = rw c.from_residual.ensures (λ p w. (c.in_err-score.ensures (signed_utf8 c.args.word.now w.numeral)).1.0 (w.numeral, w.fits))
