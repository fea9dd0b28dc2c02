-- What one call of a partner may do.
use Rattle.std.specs.Prelude.{◌≡◌, ℕ, ◌<◌, ◌≤◌, replicate}
use Rattle.values.specs.declared.container.Container.{Container}
use Rattle.values.specs.declared.field.Field.TheVariants.{Blank}
use Rattle.partners.specs.declared.partner.Reply.{Reply}
use Rattle.partners.specs.declared.partner.Reply.TheVariants.{Done, Fault, Busy}
use Rattle.partners.specs.Answers.{Answer, Answers, gives, faults}

abbrev pub EightBlanks : Container → Type 0
EightBlanks c = c.fields ≡ replicate 8 Blank

-- what a reply says of the answer, of the busy number before and after, and of the output's place
abbrev pub Said : Answer → ℕ → ℕ → Container → Reply → Type 0
Said a before after out Done = a ≡ gives out
Said a before after out (Fault f) = (a ≡ faults f) × EightBlanks out
Said a before after out Busy = (after < before) × EightBlanks out

pub record Called (answers answers' : Answers) (before after : ℕ) (operation : ℕ) (input out : Container) (r : Reply) : Type 0 where
  pub same : answers' ≡ answers
  pub no_more : after ≤ before
  pub said : Said (answers operation input) before after out r
