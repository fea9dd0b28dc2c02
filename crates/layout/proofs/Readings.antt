-- Each exit of reading a draft, as the verdict on the bytes.
use Rattle.std.proofs.Common.{◌≡◌, ℕ, ◌+◌, List, [], ◌∷◌, ◌++◌, map, length, get_or, Ok, Err, Result, sym, ap, ◌∙◌, subst, arith, w8, Fits}
use Rattle.std.specs.List.{flat_map, AllByRecursion}
use Rattle.std.proofs.lemmas.List.{append-nil, length-map}
use Rattle.std.proofs.lemmas.List.Folds.{flat_map-map}
use Rattle.std.specs.Result.{IsErrAnd}
use Rattle.std.proofs.lemmas.Result.{err_from_is_err_and}
use Rattle.std.proofs.ByRecursion.{All-map, All-take, All-from_get_or}
use Rattle.parts.specs.declared.Activity.{Activity}
use Rattle.parts.specs.declared.Link.{Link}
use Rattle.parts.specs.declared.Connector.{Connector}
use Rattle.conditions.specs.declared.text.Text.{Text}
use Rattle.conditions.specs.Texts.{text_bytes}
use Rattle.layout.specs.declared.draft.Draft.{Draft}
use Rattle.layout.specs.declared.reader.Reader.{Reader}
use Rattle.layout.specs.declared.refusal.LayoutRefusal.{LayoutRefusal}
use Rattle.layout.specs.Layout.{Parts, WithinLimits, Byte, GoodText, Item, a_count, bytes_of, text_items, items_of, encode}
use Rattle.layout.specs.Verdicts.{Refused, accepted, refused, Judged, OneVerdict, OneEncoding}
use Rattle.layout.specs.Drafts.{LayoutRead, ReadAsWritten}
use Rattle.layout.specs.Reading.{Took, Any, TextStops, EndStops, SectionIs, SectionStops, at_count, at_element}
use Rattle.layout.proofs.Taking.{ReadTo, read_front, read_long}
use Rattle.layout.proofs.Codes.{head}
use Rattle.layout.proofs.Goings.{front_more, texts_refused}
use Rattle.layout.proofs.Limits.{activity_items, link_items, connector_items, one_section, two_sections, three_sections, four_sections, Few, counts_from, texts_section, texts_kept}
use Rattle.layout.proofs.OneVerdict.{one_verdict, one_encoding}

pub bytes_from : (bs : List ℕ) → ((i : ℕ) → Fits w8 (get_or bs i 0)) → AllByRecursion Byte bs
bytes_from bs h = All-from_get_or Byte bs 0 (λ i l. let f = h i in omega arith)

-- a section that is read whole
section_front : {X : Type 0} {bs : List ℕ} {r s : Reader} {least greatest : ℕ} (items : X → List Item) (good : X → Type 0) (before : List Item) (xs : List X) → ReadTo bs (bytes_of before) r → SectionIs items good r s least greatest xs → ReadTo bs (bytes_of (before ++ head items (length xs) xs)) s
section_front items good before xs t s = front_more items before xs t s.count_is s.filled.took

-- a section of texts, as texts or as their bytes
abbrev pub TextsAre : Reader → Reader → ℕ → List Text → Type 0
TextsAre r s n ts = SectionIs (λ x. text_items (text_bytes x)) (λ x. GoodText (text_bytes x)) r s n n ts

abbrev pub TextsStop : Reader → ℕ → LayoutRefusal → Type 0
TextsStop r n e = SectionStops (λ x. text_items (text_bytes x)) (λ x. GoodText (text_bytes x)) TextStops r n n e

texts_stop : {r : Reader} {n : ℕ} {e : LayoutRefusal} → TextsStop r n e → SectionStops text_items GoodText TextStops r n n e
texts_stop (at_count h) = at_count h
texts_stop (at_element n there count_is h) =
    at_element n there count_is (record {
      elements = map text_bytes h.elements;
      fewer = omega (arith, length-map h.elements text_bytes, h.fewer);
      there = h.there;
      filled = record {
        took = rw (flat_map-map text_items text_bytes h.elements) h.filled.took;
        fine = All-map GoodText text_bytes h.elements h.filled.fine;
      };
      stop = h.stop;
    })

-- what is read before a section
pub record Front (bs : List ℕ) (r : Reader) (before : List Item) (acts : List Activity) (ls : List Link) (cs : List Connector) : Type 0 where
  pub few : Few acts ls cs
  pub read : ReadTo bs (bytes_of before) r

-- all sections are read
pub record Whole (bs : List ℕ) (r : Reader) (p : Parts) : Type 0 where
  pub limits : WithinLimits p
  pub read : ReadTo bs (encode p) r

pub read_start : {bs : List ℕ} {r : Reader} → r.rest.now ≡ bs → r.at ≡ 0 → ReadTo bs [] r
read_start same start = record { bytes_are = sym same; at_is = start }

module _ {bs : List ℕ} (all_bytes : AllByRecursion Byte bs) {r : Reader} where
  pub read_activities : {s : Reader} {xs : List Activity} → ReadTo bs [] r → SectionIs activity_items Any r s 1 32 xs → Front bs s (one_section xs) xs [] []
  read_activities {xs = xs} f h = record {
    few = record { some_activities = h.count_is.1.0; few_activities = h.count_is.1.1; few_links = omega arith; few_connectors = omega arith };
    read = section_front activity_items Any [] xs f h;
  }

  module _ {acts : List Activity} where
    pub read_links : {s : Reader} {xs : List Link} → Front bs r (one_section acts) acts [] [] → SectionIs link_items Any r s 0 128 xs → Front bs s (two_sections acts xs) acts xs []
    read_links {xs = xs} f h = record {
      few = record { some_activities = f.few.some_activities; few_activities = f.few.few_activities; few_links = h.count_is.1.1; few_connectors = omega arith };
      read = section_front link_items Any (one_section acts) xs f.read h;
    }

    module _ {ls : List Link} where
      pub read_connectors : {s : Reader} {xs : List Connector} → Front bs r (two_sections acts ls) acts ls [] → SectionIs connector_items Any r s 0 256 xs → Front bs s (three_sections acts ls xs) acts ls xs
      read_connectors {xs = xs} f h = record {
        few = record { some_activities = f.few.some_activities; few_activities = f.few.few_activities; few_links = f.few.few_links; few_connectors = h.count_is.1.1 };
        read = section_front connector_items Any (two_sections acts ls) xs f.read h;
      }

      module _ {cs : List Connector} (f : Front bs r (three_sections acts ls cs) acts ls cs) {count : ℕ} (count_is : count ≡ length ls + length acts) where
        pub stop_texts : {e : LayoutRefusal} → TextsStop r count e → Refused bs e
        stop_texts h = texts_refused (texts_section acts ls cs f.few) (texts_kept acts ls cs) all_bytes f.read (texts_stop (rw count_is at h))

        pub read_texts : {s : Reader} {xs : List Text} → TextsAre r s count xs → Whole bs s (record { activities = acts; links = ls; connectors = cs; texts = map text_bytes xs })
        read_texts {s} {xs} h =
            let ts = map text_bytes xs in
            let long : length ts ≡ length xs = length-map xs text_bytes in
            let texts_took : Took h.there s (bytes_of (flat_map text_items ts)) = rw (flat_map-map text_items text_bytes xs) h.filled.took in
            let read : ReadTo bs (bytes_of (three_sections acts ls cs ++ head text_items (length ts) ts)) s = rw long (front_more text_items (three_sections acts ls cs) ts f.read h.count_is texts_took) in
            let items : three_sections acts ls cs ++ head text_items (length ts) ts ≡ items_of (record { activities = acts; links = ls; connectors = cs; texts = ts }) =
            ap (λ l. three_sections acts ls cs ++ (a_count (length ts) ∷ l)) (sym (append-nil (flat_map text_items ts))) ∙ sym (four_sections acts ls cs ts) in
            let all : ReadTo bs (encode (record { activities = acts; links = ls; connectors = cs; texts = ts })) s = subst (λ l. ReadTo bs (bytes_of l) s) items read in
            record {
              limits = record {
                counts = counts_from f.few ts (omega (arith, long, count_is, h.count_is.1.0, h.count_is.1.1)) (All-map GoodText text_bytes xs h.filled.fine);
                in_bytes = subst (AllByRecursion Byte) (read_front all) (All-take Byte s.at bs all_bytes);
              };
              read = all;
            }

pub stop_end : {bs : List ℕ} {r : Reader} {p : Parts} → Whole bs r p → {e : LayoutRefusal} → EndStops r e → Refused bs e
stop_end {bs} {p = p} w h = subst (Refused bs) (sym h.0) (record { parts = p; limits = w.limits; encode_is = sym (read_front w.read); more = omega (arith, read_long w.read, h.1) })

pub read_end : {bs : List ℕ} {r : Reader} {p : Parts} → Whole bs r p → r.rest.now ≡ [] → Judged bs (accepted p)
read_end {p = p} w h = (w.limits, w.read.bytes_are ∙ ap (λ l. encode p ++ l) h ∙ append-nil (encode p))

-- the answer is a verdict, so it is the only one
pub accepted_parts : (bs : List ℕ) {p : Parts} → Judged bs (accepted p) → (q : Parts) → WithinLimits q → bs ≡ encode q → p ≡ q
accepted_parts bs {p} h q l e = let same : accepted p ≡ accepted q = one_verdict bs (accepted p) (accepted q) h (l, e) in cc

pub read_as_written : (bs : List ℕ) (r : Result Draft LayoutRefusal) → LayoutRead bs r → ReadAsWritten bs r
read_as_written bs (Ok d) h p l e = accepted_parts bs h p l e
read_as_written bs (Err d) h p l e = let same : refused d ≡ accepted p = one_verdict bs (refused d) (accepted p) h (l, e) in let z : ◌≡◌ {A = ℕ} 0 1 = cc in omega arith

-- the answer is these parts
pub accepted_so : {bs : List ℕ} {p : Parts} → Judged bs (accepted p) → record { verdict : Judged bs (accepted p); read_as_written : (q : Parts) → WithinLimits q → bs ≡ encode q → p ≡ q; one_verdict : OneVerdict bs; one_encoding : OneEncoding }
accepted_so {bs} h = record { verdict = h; read_as_written = accepted_parts bs h; one_verdict = one_verdict bs; one_encoding = one_encoding }

-- the answer is this refusal
pub refused_so : {bs : List ℕ} (r : Result Draft LayoutRefusal) (e : LayoutRefusal) → IsErrAnd r (λ y. y ≡ e) → Refused bs e → record { verdict : LayoutRead bs r; read_as_written : ReadAsWritten bs r; one_verdict : OneVerdict bs; one_encoding : OneEncoding }
refused_so {bs} r e k h =
    let p = err_from_is_err_and r k in
    let verdict : LayoutRead bs r = rw (p.1, p.2) h in
    record { verdict = verdict; read_as_written = read_as_written bs r verdict; one_verdict = one_verdict bs; one_encoding = one_encoding }
