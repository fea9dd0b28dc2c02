use Rattle.std.proofs.Common.{ap, ◌∙◌, subst}
use Rattle.grammar.specs.Symbols.{Symbol}
use Rattle.tokens.specs.declared.token.Token.{Token}
use Rattle.tokens.specs.Words.{symbol}
use Rattle.tokens.specs.Lexing.{bytes_of, Apt}
use Rattle.tokens.proofs.Sayings.{opening_says, closing_says, sign_says, other_says}
use Rattle.tokens.proofs.token.Token.symbol.Goals as goal

abbrev said : Token → Symbol
said x = symbol (bytes_of x)

pub returns-in-Open : goal.returns-in-Open
returns-in-Open c = ap said c.in-Open.is ∙ opening_says

pub returns-in-Close : goal.returns-in-Close
returns-in-Close c = ap said c.in-Close.is ∙ closing_says

pub returns-in-Sign : goal.returns-in-Sign
returns-in-Sign c = ap said c.in-Sign.is ∙ sign_says c.in-Sign.sign

pub returns-in-Other : goal.returns-in-Other
returns-in-Other c = ap said c.in-Other.is ∙ other_says _ (subst Apt c.in-Other.is c.requires)
