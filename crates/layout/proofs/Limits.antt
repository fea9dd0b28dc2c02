-- The four sections of a layout, one after the other.
use Rattle.std.proofs.Common.{◌≡◌, ℕ, zero, suc, ◌+◌, ◌≤◌, List, [], ◌++◌, length, replicate, sym, refl, ap, ◌∙◌, arith}
use Rattle.std.specs.List.{flat_map, AllByRecursion}
use Rattle.std.proofs.lemmas.List.{append_assoc, append-nil, length-replicate}
use Rattle.std.proofs.ByRecursion.{All-append}
use Rattle.parts.specs.declared.Activity.{Activity}
use Rattle.parts.specs.declared.Link.{Link}
use Rattle.parts.specs.declared.Connector.{Connector}
use Rattle.layout.specs.Layout.{Parts, Counts, Byte, GoodText, least_text_length, Item, two_bytes, bytes_of, section_items, record_items, text_items, items_of, encode, activity_bytes, link_bytes, connector_bytes}
use Rattle.layout.specs.Drafts.{zero_activity, zero_link, zero_connector}
use Rattle.layout.specs.Reading.{Any}
use Rattle.layout.proofs.Taking.{bytes_append}
use Rattle.layout.proofs.Codes.{head, count_same, section_same}
use Rattle.layout.proofs.Goings.{Section, spaces, spaces_bytes, text_bytes_good}

abbrev pub activity_items : Activity → List Item
activity_items = record_items activity_bytes

abbrev pub link_items : Link → List Item
link_items = record_items link_bytes

abbrev pub connector_items : Connector → List Item
connector_items = record_items connector_bytes

-- the items of the first section, the first two and the first three
abbrev pub one_section : List Activity → List Item
one_section acts = head activity_items (length acts) acts

abbrev pub two_sections : List Activity → List Link → List Item
two_sections acts ls = one_section acts ++ head link_items (length ls) ls

abbrev pub three_sections : List Activity → List Link → List Connector → List Item
three_sections acts ls cs = two_sections acts ls ++ head connector_items (length cs) cs

-- the sections that a layout begins with are as long as those that its bytes begin with
front_split : (is js : List Item) (more : List ℕ) → bytes_of (is ++ js) ++ more ≡ bytes_of is ++ (bytes_of js ++ more)
front_split is js more = ap (λ l. l ++ more) (bytes_append is js) ∙ append_assoc (bytes_of is) (bytes_of js) more

module _ (p : Parts) (acts : List Activity) where
  abbrev connectors_after : List Item
  connectors_after = section_items connector_items p.connectors (section_items text_items p.texts [])

  abbrev links_after : List Item
  links_after = section_items link_items p.links connectors_after

  after_one : (more : List ℕ) → encode p ≡ bytes_of (one_section acts) ++ more → (length p.activities ≡ length acts) × (bytes_of links_after ≡ more)
  after_one more e = section_same activity_bytes 4 (λ a. refl) p.activities acts links_after more e

  after_two : (ls : List Link) (more : List ℕ) → encode p ≡ bytes_of (two_sections acts ls) ++ more → (length p.activities ≡ length acts) × (length p.links ≡ length ls) × (bytes_of connectors_after ≡ more)
  after_two ls more e =
      let links = head link_items (length ls) ls in
      let a = after_one (bytes_of links ++ more) (e ∙ front_split (one_section acts) links more) in
      let b = section_same link_bytes 2 (λ l. refl) p.links ls connectors_after more a.1 in
      (a.0, b.0, b.1)

  after_three : (ls : List Link) (cs : List Connector) (more : List ℕ) → encode p ≡ bytes_of (three_sections acts ls cs) ++ more → (length p.activities ≡ length acts) × (length p.links ≡ length ls) × (bytes_of (section_items text_items p.texts []) ≡ more)
  after_three ls cs more e =
      let connectors = head connector_items (length cs) cs in
      let a = after_two ls (bytes_of connectors ++ more) (e ∙ front_split (two_sections acts ls) connectors more) in
      let b = section_same connector_bytes 5 (λ c. refl) p.connectors cs (section_items text_items p.texts []) more a.2 in
      (a.0, a.1, b.1)

-- texts of the least length
abbrev blank_texts : ℕ → List (List ℕ)
blank_texts n = replicate n (spaces least_text_length)

blank_texts_good : (n : ℕ) → AllByRecursion GoodText (blank_texts n)
blank_texts_good zero = tt
blank_texts_good (suc n) = ((omega arith, omega arith), blank_texts_good n)

blank_texts_bytes : (n : ℕ) → n ≤ 256 → AllByRecursion Byte (bytes_of (section_items text_items (blank_texts n) []))
blank_texts_bytes n h = let long = length-replicate n (spaces least_text_length) in (omega arith, (omega arith, each n))
  where
    each : (k : ℕ) → AllByRecursion Byte (bytes_of (flat_map text_items (blank_texts k) ++ []))
    each zero = tt
    each (suc k) = (omega arith, All-append Byte (spaces least_text_length) _ (spaces_bytes least_text_length) (each k))

pub record Few (acts : List Activity) (ls : List Link) (cs : List Connector) : Type 0 where
  pub some_activities : 1 ≤ length acts
  pub few_activities : length acts ≤ 32
  pub few_links : length ls ≤ 128
  pub few_connectors : length cs ≤ 256

pub counts_from : {acts : List Activity} {ls : List Link} {cs : List Connector} → Few acts ls cs → (ts : List (List ℕ)) → length ts ≡ length ls + length acts → AllByRecursion GoodText ts → Counts (record { activities = acts; links = ls; connectors = cs; texts = ts })
counts_from h ts long good = record { some_activities = h.some_activities; few_activities = h.few_activities; few_links = h.few_links; few_connectors = h.few_connectors; as_many_texts = long; good_texts = good }

counts_blank : {acts : List Activity} {ls : List Link} {cs : List Connector} → Few acts ls cs → Counts (record { activities = acts; links = ls; connectors = cs; texts = blank_texts (length ls + length acts) })
counts_blank {acts} {ls} h = counts_from h (blank_texts (length ls + length acts)) (length-replicate (length ls + length acts) (spaces least_text_length)) (blank_texts_good (length ls + length acts))

pub activities_section : Section activity_items Any [] 1 32
activities_section = record {
  blank = zero_activity;
  blank_good = tt;
  blank_bytes = (omega arith, (omega arith, (omega arith, (omega arith, tt))));
  some = omega arith;
  few = omega arith;
  parts = λ xs. record { activities = xs; links = []; connectors = []; texts = blank_texts (0 + length xs) };
  counts = λ xs h _. counts_blank (record { some_activities = h.0; few_activities = h.1; few_links = omega arith; few_connectors = omega arith });
  after = λ n. section_items link_items [] (section_items connector_items [] (section_items text_items (blank_texts (0 + n)) []));
  after_bytes = λ n h. (omega arith, (omega arith, (omega arith, (omega arith, blank_texts_bytes (0 + n) (omega arith)))));
  items_are = λ xs. refl;
  count_kept = λ p c n more e. let k = count_same activity_items p.activities _ n more e in (omega (arith, k.0, c.some_activities), omega (arith, k.0, c.few_activities));
}

pub links_section : (acts : List Activity) → Few acts [] [] → Section link_items Any (one_section acts) 0 128
links_section acts few = record {
  blank = zero_link;
  blank_good = tt;
  blank_bytes = (omega arith, (omega arith, tt));
  some = omega arith;
  few = omega arith;
  parts = λ xs. record { activities = acts; links = xs; connectors = []; texts = blank_texts (length xs + length acts) };
  counts = λ xs h _. counts_blank (record { some_activities = few.some_activities; few_activities = few.few_activities; few_links = h.1; few_connectors = omega arith });
  after = λ n. section_items connector_items [] (section_items text_items (blank_texts (n + length acts)) []);
  after_bytes = λ n h. (omega arith, (omega arith, blank_texts_bytes (n + length acts) (omega (arith, few.few_activities))));
  items_are = λ xs. refl;
  count_kept = λ p c n more e. let k = count_same link_items p.links _ n more (after_one p acts (two_bytes n ++ more) e).1 in (omega arith, omega (arith, k.0, c.few_links));
}

pub connectors_section : (acts : List Activity) (ls : List Link) → Few acts ls [] → Section connector_items Any (two_sections acts ls) 0 256
connectors_section acts ls few = record {
  blank = zero_connector;
  blank_good = tt;
  blank_bytes = (omega arith, (omega arith, (omega arith, (omega arith, (omega arith, tt)))));
  some = omega arith;
  few = omega arith;
  parts = λ xs. record { activities = acts; links = ls; connectors = xs; texts = blank_texts (length ls + length acts) };
  counts = λ xs h _. counts_blank (record { some_activities = few.some_activities; few_activities = few.few_activities; few_links = few.few_links; few_connectors = h.1 });
  after = λ n. section_items text_items (blank_texts (length ls + length acts)) [];
  after_bytes = λ n h. blank_texts_bytes (length ls + length acts) (omega (arith, few.few_activities, few.few_links));
  items_are = λ xs. sym (append_assoc (one_section acts) (head link_items (length ls) ls) _);
  count_kept = λ p c n more e. let k = count_same connector_items p.connectors _ n more (after_two p acts ls (two_bytes n ++ more) e).2 in (omega arith, omega (arith, k.0, c.few_connectors));
}

module _ (acts : List Activity) (ls : List Link) (cs : List Connector) where
  pub four_sections : (ts : List (List ℕ)) → items_of (record { activities = acts; links = ls; connectors = cs; texts = ts }) ≡ three_sections acts ls cs ++ section_items text_items ts []
  four_sections ts = sym (append_assoc (one_section acts) (head link_items (length ls) ls) _) ∙ sym (append_assoc (two_sections acts ls) (head connector_items (length cs) cs) _)

  pub texts_section : Few acts ls cs → Section text_items GoodText (three_sections acts ls cs) (length ls + length acts) (length ls + length acts)
  texts_section few = record {
    blank = spaces least_text_length;
    blank_good = (omega arith, omega arith);
    blank_bytes = text_bytes_good least_text_length (omega arith);
    some = omega arith;
    few = omega (arith, few.few_activities, few.few_links);
    parts = λ ts. record { activities = acts; links = ls; connectors = cs; texts = ts };
    counts = λ ts h good. counts_from few ts (omega (arith, h.0, h.1)) good;
    after = λ n. [];
    after_bytes = λ n h. tt;
    items_are = four_sections;
    count_kept = λ p c n more e.
        let a = after_three p acts ls cs (two_bytes n ++ more) e in
        let k = count_same text_items p.texts [] n more a.2 in
        (omega (arith, k.0, a.0, a.1, c.as_many_texts), omega (arith, k.0, a.0, a.1, c.as_many_texts));
  }

  pub texts_kept : (p : Parts) → Counts p → (n : ℕ) (more : List ℕ) → encode p ≡ bytes_of (three_sections acts ls cs) ++ (two_bytes n ++ more) → bytes_of (flat_map text_items p.texts) ≡ more
  texts_kept p c n more e =
      let a = after_three p acts ls cs (two_bytes n ++ more) e in
      ap bytes_of (sym (append-nil (flat_map text_items p.texts))) ∙ (count_same text_items p.texts [] n more a.2).1
