use Rattle.std.proofs.Common.{sym, ⊎_elim}
use Rattle.parts.specs.declared.ConnectorKind.TheVariants.{Case, Output}
use Rattle.rules.proofs.connectors.is_sourced.Goals as goal

pub returns-in-Err : goal.returns-in-Err
returns-in-Err c = (λ z. cc, λ s. absurd (⊎_elim (λ l. c.in-Err.ensures.1 Case (sym l.0)) (λ r. c.in-Err.ensures.1 Output (sym r.0)) s))
