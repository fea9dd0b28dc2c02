use Rattle.std.proofs.Common.{arith}
use Rattle.layout.proofs.Goings.{records_refused}
use Rattle.layout.proofs.Limits.{activities_section, links_section, connectors_section}
use Rattle.layout.proofs.Readings.{bytes_from, read_start, read_activities, read_links, read_connectors, stop_texts, read_texts, stop_end, read_end, accepted_so, refused_so}
use Rattle.layout.proofs.draft.Draft.read.Goals as goal

pub returns-in_err-section : goal.returns-in_err-section
returns-in_err-section c =
    let all = bytes_from c.args.bytes.now c.type_inv.bytes in
    let none = read_start c.new-reader.ensures.rest c.new-reader.ensures.start in
    refused_so c.from_residual.result _ c.from_residual.ensures.1 (records_refused _ activities_section all none c.in_err-section.ensures)

pub returns-in_err-section-2 : goal.returns-in_err-section-2
returns-in_err-section-2 c =
    let all = bytes_from c.args.bytes.now c.type_inv.bytes in
    let none = read_start c.new-reader.ensures.rest c.new-reader.ensures.start in
    let one = read_activities all none c.in_ok-section.ensures in
    refused_so c.from_residual-in_err-section-2.result _ c.from_residual-in_err-section-2.ensures.1 (records_refused _ (links_section _ one.few) all one.read c.in_err-section-2.ensures)

pub returns-in_err-section-3 : goal.returns-in_err-section-3
returns-in_err-section-3 c =
    let all = bytes_from c.args.bytes.now c.type_inv.bytes in
    let none = read_start c.new-reader.ensures.rest c.new-reader.ensures.start in
    let one = read_activities all none c.in_ok-section.ensures in
    let two = read_links all one c.in_ok-section-2.ensures in
    refused_so c.from_residual-in_err-section-3.result _ c.from_residual-in_err-section-3.ensures.1 (records_refused _ (connectors_section _ _ two.few) all two.read c.in_err-section-3.ensures)

pub returns-in_err-section-4 : goal.returns-in_err-section-4
returns-in_err-section-4 c =
    let all = bytes_from c.args.bytes.now c.type_inv.bytes in
    let none = read_start c.new-reader.ensures.rest c.new-reader.ensures.start in
    let one = read_activities all none c.in_ok-section.ensures in
    let two = read_links all one c.in_ok-section-2.ensures in
    let three = read_connectors all two c.in_ok-section-3.ensures in
    refused_so c.from_residual-in_err-section-4.result _ c.from_residual-in_err-section-4.ensures.1 (stop_texts all three (omega arith) c.in_err-section-4.ensures)

pub returns-in_err-end : goal.returns-in_err-end
returns-in_err-end c =
    let all = bytes_from c.args.bytes.now c.type_inv.bytes in
    let none = read_start c.new-reader.ensures.rest c.new-reader.ensures.start in
    let one = read_activities all none c.in_ok-section.ensures in
    let two = read_links all one c.in_ok-section-2.ensures in
    let three = read_connectors all two c.in_ok-section-3.ensures in
    let whole = read_texts all three (omega arith) c.in_ok-section-4.ensures in
    refused_so c.from_residual-in_err-end.result _ c.from_residual-in_err-end.ensures.1 (stop_end whole c.in_err-end.ensures)

pub returns : goal.returns
returns c =
    let all = bytes_from c.args.bytes.now c.type_inv.bytes in
    let none = read_start c.new-reader.ensures.rest c.new-reader.ensures.start in
    let one = read_activities all none c.in_ok-section.ensures in
    let two = read_links all one c.in_ok-section-2.ensures in
    let three = read_connectors all two c.in_ok-section-3.ensures in
    let whole = read_texts all three (omega arith) c.in_ok-section-4.ensures in
    accepted_so (read_end whole c.in_ok-end.ensures)
