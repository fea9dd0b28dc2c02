use Rattle.std.proofs.Common.{◌∙◌, rules, tests}
use Rattle.values.specs.declared.field.Field.TheVariants.{Blank}
use Rattle.values.specs.Same.{same_container}
use Rattle.tables.specs.declared.source.Source.TheVariants.{Given}
use Rattle.tables.specs.Answers.{chosen}
use Rattle.tables.proofs.Mapped.{mapped}
use Rattle.tables.proofs.outputs.Outputs.over.Goals as goal

pub returns : goal.returns
returns c =
    let o = c.args.self.now in
    same_container _ _ (c.new.ensures ∙ mapped _ _ (chosen c.args.input.now) (λ x y q k. search (rules, tests)) o.sources c.map.result 8 (Given Blank) c.map.ensures.items o.eight)
