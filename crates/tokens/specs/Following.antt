-- The symbols that a lexer has still to give, each with its place.
use Rattle.std.specs.Prelude.{◌≡◌, ℕ, List, [], ◌∷◌, map, Some, None, Ok, Err, Option, Result}
use Rattle.grammar.specs.Symbols.{bad}
use Rattle.grammar.specs.Faults as faults
use Rattle.tokens.specs.declared.fault.Fault.{Fault}
use Rattle.tokens.specs.declared.lexer.Lexer.{Lexer}
use Rattle.tokens.specs.declared.symbol.Located.{Located}
use Rattle.tokens.specs.declared.symbol.Symbol.{Symbol}
use Rattle.tokens.specs.Tokens.{Part, tokens, tokens_from}
use Rattle.tokens.specs.Words.{symbol}
use Rattle.tokens.specs.Symbols.{meaning}

-- a token by what it says
abbrev pub told : Part → faults.Located
told t = (t.0, symbol t.1)

-- the symbols of a text
abbrev pub symbols_of : List ℕ → List faults.Located
symbols_of text = map told (tokens text)

abbrev pub text_of : Lexer → List ℕ
text_of l = l.text.now

abbrev pub to_come : Lexer → List faults.Located
to_come l = map told (tokens_from l.text.now l.place)

abbrev pub FollowsBy : ℕ → List faults.Located → ℕ → Option Symbol → List faults.Located → Type 0
FollowsBy end before place None after = (before ≡ []) × (after ≡ []) × (place ≡ end)
FollowsBy end before place (Some s) after = before ≡ (place, meaning s) ∷ after

-- the first symbol still to come, the end, or a bad token
abbrev pub Follows : ℕ → List faults.Located → Result Located Fault → List faults.Located → Type 0
Follows end before (Ok n) after = FollowsBy end before n.place n.symbol after
Follows end before (Err f) after = before ≡ (f.place, bad) ∷ after
