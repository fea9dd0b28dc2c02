-- The value of a reading, by the tests that it can have, and what weighing answers.
use Rattle.std.proofs.Common.{◌≡◌, true, List, Some, None, Option, sym, refl, ap, ◌∙◌, ap₂}
use Rattle.grammar.specs.Symbols.{Symbol}
use Rattle.grammar.specs.Grammar.{Kind, join, Test, Tree, Level, Reads, one_term, or_term, one_factor, and_factor, of_not, of_parentheses, of_truth, of_comparison, of_link}
use Rattle.conditions.specs.Truths.{Truth, negated, both, either, holds}
use Rattle.conditions.specs.Values.{value, over_statuses}
use Rattle.conditions.specs.Texts.{Holding}
use Rattle.conditions.proofs.Whole.{one_verdict}
use Rattle.readings.specs.Readings.{reading_of, holding, by_status}
use Rattle.readings.specs.Theorems.{Agree, FaultyUnread, HoldingIs, HoldsWeighed, SameValue, SameHolding, SameStatuses, JoinHoldingIs, OnlyLinks}
use Rattle.readings.proofs.Forward.{read_worked_out}
use Rattle.readings.proofs.Backward.{worked_out_reads}

agreed : {k : Kind} {l : Level} {ss : List Symbol} {t : Tree} (f g : Test → Truth) → Reads k l ss t → Agree k f g → value f t ≡ value g t
agreed f g (one_term r) a = agreed f g r a
agreed f g (or_term p q) a = ap₂ either (agreed f g p a) (agreed f g q a)
agreed f g (one_factor r) a = agreed f g r a
agreed f g (and_factor p q) a = ap₂ both (agreed f g p a) (agreed f g q a)
agreed f g (of_not r) a = ap negated (agreed f g r a)
agreed f g (of_parentheses r) a = agreed f g r a
agreed f g of_truth a = refl
agreed f g (of_comparison {x} {y} {c}) a = a x c y
agreed f g (of_link {n = n} m) a = a n m

pub same_value : SameValue
same_value k f g a text t r = agreed f g r a

pub same_holding : SameHolding
same_holding k f g a text = go (reading_of k text) refl
  where
    go : (o : Option Tree) → reading_of k text ≡ o → holding o f ≡ holding o g
    go None e = refl
    go (Some t) e = ap holds (same_value k f g a text t (worked_out_reads k text t e))

pub same_statuses : SameStatuses
same_statuses ls xs s a text t r = same_value (join ls) (over_statuses xs) (by_status s) a text t r

pub faulty_unread : FaultyUnread
faulty_unread k text place f = go (reading_of k text) refl
  where
    go : (o : Option Tree) → reading_of k text ≡ o → o ≡ None
    go None e = refl
    go (Some t) e = absurd ((one_verdict text).not_both k t place (worked_out_reads k text t e) f)

pub holding_is : HoldingIs
holding_is k tests text b h = h.answer_is ∙ ap (λ o. holding o tests) (sym (read_worked_out k text h.tree h.reads))

pub holds_weighed : HoldsWeighed
holds_weighed k tests text h = go (reading_of k text) refl h
  where
    go : (o : Option Tree) → reading_of k text ≡ o → holding o tests ≡ true → Holding k tests text true
    go None e b = cc
    go (Some t) e b = record { tree = t; reads = worked_out_reads k text t e; answer_is = sym b }

pub join_holding_is : JoinHoldingIs
join_holding_is ls xs s a text b h = holding_is (join ls) (over_statuses xs) text b h ∙ same_holding (join ls) (over_statuses xs) (by_status s) a text

pub only_links : OnlyLinks
only_links ls s t a text = same_holding (join ls) (by_status s) (by_status t) a text
