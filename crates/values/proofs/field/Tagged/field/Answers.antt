use Rattle.std.proofs.Common.{◌≡◌, ◌≢◌, ℕ, Ok, Err, Result, None, sym, ◌∙◌}
use Rattle.std.specs.Result.{result_ok}
use Rattle.values.specs.declared.field.Tag.{Tag}
use Rattle.values.specs.declared.field.UnknownTag.{UnknownTag}
use Rattle.values.specs.Layout.{HasTag, tag_number}
use Rattle.values.proofs.Encodings.{no_field}
use Rattle.values.proofs.field.Tagged.field.Goals as goal

no_tag : (n : ℕ) (r : Result Tag UnknownTag) → HasTag n r → result_ok r ≡ None → (t : Tag) → tag_number t ≢ n
no_tag n (Ok t) has none = absurd (cc)
no_tag n (Err e) has none = has.1

pub returns-in_err-ok : goal.returns-in_err-ok
returns-in_err-ok c = rw c.from_residual.ensures (no_field c.args.self.tag c.args.self.value (no_tag _ _ c.try_from.ensures (sym c.ok.ensures.value ∙ c.in_err-ok.was)))
