use Rattle.std.proofs.Common.{◌≡◌, ℕ, ◌-◌, ◌<◌, List, ◌++◌, length, get_or, drop, replicate, sym, ap, ◌∙◌, rules, w16}
use Rattle.std.specs.Array.{IsFirstChunk, IsWholeChunk}
use Rattle.std.specs.Int.{from_le_bytes}
use Rattle.tables.specs.Layout.{two_bytes}
use Rattle.tables.proofs.Pieces.{front_and_back, two_bytes_read}
use Rattle.tables.proofs.Encodings.{no_outcome}
use Rattle.tables.proofs.outcome.reading.read_outcome.Goals as goal

code_and_outputs : (bs front back : List ℕ) (code : ℕ) → length bs ≡ 74 → length front ≡ 2 → IsFirstChunk bs front 2 → IsWholeChunk (drop (length bs - 72) bs) back 72 → code ≡ from_le_bytes w16 front → get_or front 0 0 < 256 → bs ≡ two_bytes code ++ back
code_and_outputs bs front back code long two f b e low = front_and_back 2 72 bs (two_bytes code) back long (two_bytes_read code front two e low ∙ f.same) b.same

pub returns-in_err-read : goal.returns-in_err-read
returns-in_err-read c =
    let whole = code_and_outputs c.args.bytes.now _ c.in_ok-outputs.outputs.now _ (search rules) (search rules) c.in_ok-first_chunk.ensures.cases c.in_ok-outputs.ensures.cases.1 c.from_le_bytes-code.ensures (search rules) in
    rw c.from_residual-in_err-read.ensures (no_outcome c.args.bytes.now _ (whole ∙ ap (λ n. two_bytes n ++ c.in_ok-outputs.outputs.now) c.if-code-eq0.true) c.in_err-read.ensures)

pub returns-then-code-eq0 : goal.returns-then-code-eq0
returns-then-code-eq0 c =
    code_and_outputs c.args.bytes.now _ c.in_ok-outputs.outputs.now _ (search rules) (search rules) c.in_ok-first_chunk.ensures.cases c.in_ok-outputs.ensures.cases.1 c.from_le_bytes-code.ensures (search rules)
    ∙ (λ i. two_bytes (c.if-code-eq0.true i) ++ c.in_ok-read.ensures i)

pub returns : goal.returns
returns c =
    let outputs = c.in_ok-outputs.outputs.now in
    let long : length outputs ≡ 72 = search rules in
    let zeros : outputs ≡ replicate 72 0 = c.all_zero.ensures.0 c.if-not-all_zero.false ∙ ap (λ n. replicate n 0) long in
    code_and_outputs c.args.bytes.now _ outputs _ (search rules) (search rules) c.in_ok-first_chunk.ensures.cases c.in_ok-outputs.ensures.cases.1 c.from_le_bytes-code.ensures (search rules)
    ∙ (λ i. two_bytes (sym c.in_ok-new.ensures i) ++ zeros i)
