-- Causes and places are small numbers.
use Rattle.std.proofs.Common.{ℕ, ◌+◌, ◌*◌, ◌^◌, ◌<◌, ◌≤◌, List, [], ◌∷◌, length, get_or, ap, mul-le-mul_right, suc-mul, arith}
use Rattle.std.specs.List.{flat_map, AllByRecursion}
use Rattle.std.proofs.lemmas.List.{length-append, length-take-le}
use Rattle.std.proofs.ByRecursion.{All-weaker, All-get_or}
use Rattle.conditions.proofs.Within.{fault_within}
use Rattle.layout.specs.declared.refusal.LayoutRefusal.{LayoutRefusal}
use Rattle.layout.specs.declared.refusal.LayoutRefusal.TheVariants.{Extra}
use Rattle.layout.specs.Layout.{Parts, Counts, GoodText, Item, bytes_of, encode, section_items, record_items, text_items, activity_bytes, link_bytes, connector_bytes}
use Rattle.layout.specs.Verdicts.{Refused, Next}
use Rattle.layout.proofs.Taking.{bytes_append}
use Rattle.rules.specs.declared.refusal.RuleRefusal.{RuleRefusal}
use Rattle.rules.specs.declared.refusal.RuleRefusal.TheVariants.{BadText}
use Rattle.rules.specs.Rules.{Broken, kind_of_text}
use Rattle.flows.specs.declared.refusal.DefinitionRefusal.{DefinitionRefusal}
use Rattle.flows.specs.declared.refusal.DefinitionRefusal.TheVariants.{Layout, Rule}
use Rattle.flows.specs.Refusals.{place_of}
use Rattle.flows.specs.Verdicts.{refused, Judged}

-- elements of at most so many bytes each
few_bytes : {X : Type 0} (items : X → List Item) (width : ℕ) (xs : List X) → AllByRecursion (λ x. length (bytes_of (items x)) ≤ width) xs → length (bytes_of (flat_map items xs)) ≤ length xs * width
few_bytes items width [] a = omega arith
few_bytes items width (x ∷ xs) a =
    omega (arith, ap length (bytes_append (items x) (flat_map items xs)), length-append (bytes_of (items x)) (bytes_of (flat_map items xs)), few_bytes items width xs a.1, suc-mul (length xs) width, a.0)

all_of : {X : Type 0} (P : X → Type 0) → ((x : X) → P x) → (xs : List X) → AllByRecursion P xs
all_of P h [] = tt
all_of P h (x ∷ xs) = (h x, all_of P h xs)

section_few : {X : Type 0} (items : X → List Item) (width most : ℕ) (xs : List X) (after : List Item) → AllByRecursion (λ x. length (bytes_of (items x)) ≤ width) xs → length xs ≤ most → length (bytes_of (section_items items xs after)) ≤ 2 + most * width + length (bytes_of after)
section_few items width most xs after a h =
    omega (arith, ap length (bytes_append (flat_map items xs) after), length-append (bytes_of (flat_map items xs)) (bytes_of after), few_bytes items width xs a, mul-le-mul_right width h)

pub encode_few : (p : Parts) → Counts p → length (encode p) ≤ 11432
encode_few p c =
    let texts = section_items text_items p.texts [] in
    let connectors = section_items (record_items connector_bytes) p.connectors texts in
    let links = section_items (record_items link_bytes) p.links connectors in
    omega (
      arith,
      section_few (record_items activity_bytes) 4 32 p.activities links (all_of _ (λ x. omega arith) p.activities) c.few_activities,
      section_few (record_items link_bytes) 2 128 p.links connectors (all_of _ (λ x. omega arith) p.links) c.few_links,
      section_few (record_items connector_bytes) 5 256 p.connectors texts (all_of _ (λ x. omega arith) p.connectors) c.few_connectors,
      section_few text_items 61 160 p.texts [] (All-weaker GoodText _ (λ t g. omega (arith, length-append t [], g.1)) p.texts c.good_texts) (omega (arith, c.as_many_texts, c.few_links, c.few_activities)),
    )

next_within : (bs : List ℕ) (at : ℕ) (item : Item) → Next bs at item → at ≤ 11432
next_within bs at item n =
    omega (arith, n.at_is, ap (λ is. length (bytes_of is)) n.items_are, ap length (bytes_append n.before (item ∷ n.after)), length-append (bytes_of n.before) (bytes_of (item ∷ n.after)), encode_few n.parts n.limits.counts)

layout_place : (bs : List ℕ) (e : LayoutRefusal) → Refused bs e → place_of (Layout e) ≤ 11432
layout_place bs (Extra at) r = omega (arith, ap length r.encode_is, length-take-le at bs (omega (arith, r.more)), encode_few r.parts r.limits.counts)
layout_place bs e r = next_within bs (place_of (Layout e)) _ r.next

rule_place : (p : Parts) → Counts p → (e : RuleRefusal) → Broken p e → place_of (Rule e) ≤ 41023
rule_place p c (BadText i place) b =
    omega (arith, b.0, c.as_many_texts, c.few_links, c.few_activities, fault_within (kind_of_text p.links i) (get_or p.texts i []) place b.1, (All-get_or GoodText p.texts i [] b.0 c.good_texts).1)
rule_place p c e b = omega (arith, b.0, c.few_activities, c.few_links, c.few_connectors)

pub place_small : (bs : List ℕ) (e : DefinitionRefusal) → Judged bs (refused e) → place_of e < 2 ^ 32
place_small bs (Layout e) j = omega (arith, layout_place bs e j)
place_small bs (Rule e) j = omega (arith, rule_place j.parts j.limits.counts e j.first.0)
