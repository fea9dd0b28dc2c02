use Rattle.std.proofs.Common.{◌+◌, [], ◌∷◌, sym, refl, ap, ◌∙◌, inr, arith}
use Rattle.std.proofs.lemmas.List.{get_or-take}
use Rattle.tokens.proofs.Classes.{minus_class}
use Rattle.tokens.proofs.Fronts.{front_minus, take_first, minus_apt}
use Rattle.tokens.proofs.lexer.tokens.minus.Goals as goal

pub returns-then-word-eq0 : goal.returns-then-word-eq0
returns-then-word-eq0 c =
    let bs = c.args.rest.now in
    record {
      some = omega (arith, c.requires.within);
      long = omega (arith, front_minus bs c.requires.first, c.requires.word);
      bytes_are = sym (take_first bs (omega (arith, c.requires.within)) ∙ ap (λ b. b ∷ []) c.requires.first);
      apt = minus_apt;
    }

pub returns-else-word-eq0 : goal.returns-else-word-eq0
returns-else-word-eq0 c =
    let bs = c.args.rest.now in
    record {
      some = omega (arith, c.requires.within);
      long = omega (arith, front_minus bs c.requires.first, c.requires.word);
      bytes_are = refl;
      apt = inr (minus_class _ (get_or-take (c.args.word + 1) bs 0 0 (omega arith) ∙ c.requires.first));
    }
