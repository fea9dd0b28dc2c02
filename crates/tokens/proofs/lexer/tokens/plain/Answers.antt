use Rattle.std.proofs.Common.{◌≡◌, [], ◌∷◌, get_or, sym, refl, ap, ◌∙◌, inl, arith}
use Rattle.std.proofs.lemmas.List.{get_or-take}
use Rattle.tokens.specs.declared.class.Class.TheVariants.{Letter, Digit, Sign}
use Rattle.tokens.specs.Classes.{class}
use Rattle.tokens.proofs.Fronts.{front_at, front_single, front_long_sign, take_first, run_pos}
use Rattle.tokens.proofs.lexer.tokens.plain.Goals as goal

pub returns-in-Some : goal.returns-in-Some
returns-in-Some c = front_long_sign c.args.rest.now _ c.in-Some.ensures

pub returns-in-Letter : goal.returns-in-Letter
returns-in-Letter c =
    let bs = c.args.rest.now in
    let n = c.run_length-n in
    let is : class (get_or bs 0 0) ≡ Letter = ap class (sym c.requires.first) ∙ sym c.in-Letter.ensures in
    record {
      some = c.requires.some;
      long = n.ensures.run ∙ sym (front_at Letter bs is);
      bytes_are = refl;
      apt = ap class (get_or-take n.result bs 0 0 (omega (arith, run_pos bs Letter refl is c.requires.some, n.ensures.run))) ∙ is;
    }

pub returns-in-Digit : goal.returns-in-Digit
returns-in-Digit c =
    let bs = c.args.rest.now in
    let n = c.run_length-n-in-Digit in
    let is : class (get_or bs 0 0) ≡ Digit = ap class (sym c.requires.first) ∙ sym c.in-Digit.ensures in
    record {
      some = c.requires.some;
      long = n.ensures.run ∙ sym (front_at Digit bs is);
      bytes_are = refl;
      apt = inl (ap class (get_or-take n.result bs 0 0 (omega (arith, run_pos bs Digit refl is c.requires.some, n.ensures.run))) ∙ is);
    }

pub returns-in-None : goal.returns-in-None
returns-in-None c =
    let bs = c.args.rest.now in
    record {
      some = c.requires.some;
      long = sym (front_single bs Sign (c.in-Sign.ensures ∙ ap class c.requires.first) (λ e. cc) (λ e. cc) (λ _. c.in-None.ensures) (λ e. c.requires.no_minus (c.requires.first ∙ e)));
      bytes_are = c.single.ensures.bytes ∙ ap (λ b. b ∷ []) c.requires.first ∙ sym (take_first bs c.requires.some);
      apt = c.single.ensures.apt;
    }

pub returns-in_default : goal.returns-in_default
returns-in_default c =
    let bs = c.args.rest.now in
    record {
      some = c.requires.some;
      long = sym (front_single bs _ (c.of.ensures ∙ ap class c.requires.first) c.in_default.not-Letter c.in_default.not-Digit (λ s. absurd (c.in_default.not-Sign s)) (λ e. c.requires.no_minus (c.requires.first ∙ e)));
      bytes_are = c.single-in_default.ensures.bytes ∙ ap (λ b. b ∷ []) c.requires.first ∙ sym (take_first bs c.requires.some);
      apt = c.single-in_default.ensures.apt;
    }
