-- A busy number shared out among tries.
use Rattle.std.proofs.Common.{◌≡◌, ℕ, ◌+◌, ◌/◌, ◌<◌, ◌≤◌, refl, ◌∙◌, subst, le_trans, le-div_iff_mul-le, div-mul-le_self, arith}
use native.Mathlib.Nat.{add-div_right}
use Rattle.values.specs.declared.container.Container.{Container}
use Rattle.partners.specs.declared.partner.Reply.{Reply}
use Rattle.partners.specs.declared.partner.Reply.TheVariants.{Done, Fault, Busy}
use Rattle.partners.specs.Answers.{Answer, Answers}
use Rattle.partners.specs.Calls.{EightBlanks, Said, Called}

share_le : (a b k : ℕ) → 1 ≤ k → a ≤ b → a / k ≤ b / k
share_le a b k pos h = (le-div_iff_mul-le pos).1 (le_trans (div-mul-le_self a k) h)

share_falls : (a b k : ℕ) → 1 ≤ k → a + k ≤ b → a / k < b / k
share_falls a b k pos h =
    let le : a / k + 1 ≤ b / k = subst (λ (n : ℕ). n ≤ b / k) (add-div_right a pos) (share_le (a + k) b k pos h) in
    omega arith

-- what a call below says, other than busy, is said of other busy numbers too
said_again : (a : Answer) (b₀ b₁ b₂ b₃ : ℕ) (out : Container) (r : Reply) → (r ≡ Busy → ⊥) → Said a b₀ b₁ out r → Said a b₂ b₃ out r
said_again a b₀ b₁ b₂ b₃ out Done n s = s
said_again a b₀ b₁ b₂ b₃ out (Fault f) n s = s
said_again a b₀ b₁ b₂ b₃ out Busy n s = absurd (n refl)

-- some calls below were busy, and then one was not
pub answered : (before between after : Answers) (b₀ b₁ b₂ k : ℕ) (operation : ℕ) (input out : Container) (r : Reply) → 1 ≤ k → between ≡ before → b₁ ≤ b₀ → (r ≡ Busy → ⊥) → Called between after b₁ b₂ operation input out r → Called before after (b₀ / k) (b₂ / k) operation input out r
answered before between after b₀ b₁ b₂ k operation input out r pos same less other c =
    record {
      same = c.same ∙ same;
      no_more = share_le b₂ b₀ k pos (le_trans c.no_more less);
      said = subst (λ (f : Answers). Said (f operation input) (b₀ / k) (b₂ / k) out r) same (said_again _ b₁ b₂ _ _ out r other c.said);
    }

-- as many calls below as tries, all of them busy
pub all_busy : (before after : Answers) (b₀ b₁ k : ℕ) (operation : ℕ) (input out : Container) → 1 ≤ k → after ≡ before → b₁ + k ≤ b₀ → EightBlanks out → Called before after (b₀ / k) (b₁ / k) operation input out Busy
all_busy before after b₀ b₁ k operation input out pos same less blank =
    record { same = same; no_more = share_le b₁ b₀ k pos (omega arith); said = (share_falls b₁ b₀ k pos less, blank) }
