-- A section: how what is read so far can go on within the limits, and what it is refused for where it stops.
use Rattle.std.proofs.Common.{◌≡◌, ℕ, zero, suc, ◌+◌, ◌-◌, ◌<◌, ◌≤◌, List, [], ◌∷◌, ◌++◌, length, take, replicate, sym, ap, ◌∙◌, subst, arith}
use Rattle.std.specs.List.{flat_map, AllByRecursion}
use Rattle.std.proofs.lemmas.List.{append_assoc, length-append, length-replicate}
use Rattle.std.proofs.lemmas.Grind.{flat_map-append}
use Rattle.std.proofs.ByRecursion.{All-append, All-take}
use Rattle.layout.specs.declared.reader.Reader.{Reader}
use Rattle.layout.specs.declared.refusal.LayoutRefusal.{LayoutRefusal}
use Rattle.layout.specs.Layout.{Parts, Counts, Byte, GoodText, Item, a_count, a_length, a_text, two_bytes, bytes_of, section_items, record_items, text_items, items_of, encode}
use Rattle.layout.specs.Verdicts.{Next, Begins, Refused}
use Rattle.layout.specs.Reading.{Took, Between, CutAt, CountIs, CountStops, no_count, bad_count, TextStops, no_length, bad_length, short_text, Any, Filled, Stopped, SectionStops, at_count, at_element}
use Rattle.layout.proofs.Taking.{bytes_append, took_more, ReadTo, read_items, read_front, read_through, read_within, read_short}
use Rattle.layout.proofs.Codes.{head, length_good}

-- parts within the limits that are written as the items before, then those that come next, and then more
pub record Goes (before next : List Item) : Type 0 where
  pub parts : Parts
  pub counts : Counts parts
  pub rest : List Item
  pub items_are : items_of parts ≡ before ++ (next ++ rest)
  pub rest_bytes : AllByRecursion Byte (bytes_of rest)

bytes_both : (is js : List Item) → AllByRecursion Byte (bytes_of is) → AllByRecursion Byte (bytes_of js) → AllByRecursion Byte (bytes_of (is ++ js))
bytes_both is js p q = rw (bytes_append is js) (All-append Byte (bytes_of is) (bytes_of js) p q)

goes_next : {bs : List ℕ} {r : Reader} {before : List Item} {item : Item} {next : List Item} → Goes before (item ∷ next) → AllByRecursion Byte (bytes_of (item ∷ next)) → AllByRecursion Byte bs → ReadTo bs (bytes_of before) r → Next bs r.at item
goes_next {bs} {r} {before} {item} {next} g b all front = record {
  parts = g.parts;
  limits = record {
    counts = g.counts;
    in_bytes = subst (AllByRecursion Byte) (sym (ap bytes_of g.items_are)) (bytes_both before ((item ∷ next) ++ g.rest) (subst (AllByRecursion Byte) (read_front front) (All-take Byte r.at bs all)) (bytes_both (item ∷ next) g.rest b g.rest_bytes));
  };
  before = before;
  after = next ++ g.rest;
  items_are = g.items_are;
  front_is = read_front front;
  at_is = front.at_is;
}

goes_on : (before : List Item) (item : Item) (next : List Item) → Goes before (item ∷ next) → Goes (before ++ item ∷ []) next
goes_on before item next g = record {
  parts = g.parts;
  counts = g.counts;
  rest = g.rest;
  items_are = g.items_are ∙ sym (append_assoc before (item ∷ []) (next ++ g.rest));
  rest_bytes = g.rest_bytes;
}

-- a section after the items before it: its limits, and parts that have any elements in it
pub record Section {X : Type 0} (items : X → List Item) (good : X → Type 0) (before : List Item) (least greatest : ℕ) : Type 0 where
  pub blank : X
  pub blank_good : good blank
  pub blank_bytes : AllByRecursion Byte (bytes_of (items blank))
  pub some : least ≤ greatest
  pub few : greatest ≤ 256
  pub parts : List X → Parts
  pub counts : (xs : List X) → Between least greatest (length xs) → AllByRecursion good xs → Counts (parts xs)
  pub after : ℕ → List Item
  pub after_bytes : (n : ℕ) → n ≤ greatest → AllByRecursion Byte (bytes_of (after n))
  pub items_are : (xs : List X) → items_of (parts xs) ≡ before ++ section_items items xs (after (length xs))
  pub count_kept : (p : Parts) → Counts p → (n : ℕ) (more : List ℕ) → encode p ≡ bytes_of before ++ (two_bytes n ++ more) → Between least greatest n

begins_is : {bs xs ys : List ℕ} {r s : Reader} → ReadTo bs xs r → Took r s ys → (g : Begins (take (r.at + length ys) bs)) → encode g.parts ≡ xs ++ (ys ++ g.rest)
begins_is {xs = xs} {ys = ys} p q g = g.encode_is ∙ ap (λ l. l ++ g.rest) (read_through p q) ∙ append_assoc xs ys g.rest

-- a section that is read in part
pub front_more : {X : Type 0} {bs : List ℕ} {a b c : Reader} {least greatest n : ℕ} (items : X → List Item) (before : List Item) (xs : List X) → ReadTo bs (bytes_of before) a → CountIs a b least greatest n → Took b c (bytes_of (flat_map items xs)) → ReadTo bs (bytes_of (before ++ head items n xs)) c
front_more {n = n} items before xs p q t = read_items before (head items n xs) p (took_more q.0 t)

module _ {X : Type 0} {items : X → List Item} {good : X → Type 0} {before : List Item} {least greatest : ℕ} (s : Section items good before least greatest) where
  blanks : ℕ → List X
  blanks n = replicate n s.blank

  blanks_good : (n : ℕ) → AllByRecursion good (blanks n)
  unfolding blanks
  blanks_good zero = tt
  blanks_good (suc n) = (s.blank_good, blanks_good n)

  blanks_bytes : (n : ℕ) → AllByRecursion Byte (bytes_of (flat_map items (blanks n)))
  unfolding blanks
  blanks_bytes zero = tt
  blanks_bytes (suc n) = bytes_both (items s.blank) (flat_map items (blanks n)) s.blank_bytes (blanks_bytes n)

  blanks_long : (n : ℕ) → length (blanks n) ≡ n
  unfolding blanks
  blanks_long n = length-replicate n s.blank

  goes_count : Goes before (a_count (length (blanks least)) ∷ [])
  goes_count =
      let long = blanks_long least in
      record {
        parts = s.parts (blanks least);
        counts = s.counts (blanks least) (omega arith, omega (arith, s.some)) (blanks_good least);
        rest = flat_map items (blanks least) ++ s.after (length (blanks least));
        items_are = s.items_are (blanks least);
        rest_bytes = bytes_both (flat_map items (blanks least)) (s.after (length (blanks least))) (blanks_bytes least) (s.after_bytes (length (blanks least)) (omega (arith, s.some)));
      }

  count_bytes : AllByRecursion Byte (bytes_of (a_count (length (blanks least)) ∷ []))
  count_bytes = let long = blanks_long least in (omega (arith, s.some, s.few), (omega (arith, s.some, s.few), tt))

  goes_element : (n : ℕ) (xs : List X) (x : X) → Between least greatest n → length xs < n → AllByRecursion good xs → good x → Goes (before ++ head items n xs) (items x)
  goes_element n xs x limits fewer fine g =
      let more = blanks (n - length xs - 1) in
      let all = xs ++ x ∷ more in
      let long : length all ≡ n = omega (arith, length-append xs (x ∷ more), blanks_long (n - length xs - 1), fewer) in
      record {
        parts = s.parts all;
        counts = s.counts all (omega (arith, limits.0), omega (arith, limits.1)) (All-append good xs (x ∷ more) fine (g, blanks_good (n - length xs - 1)));
        rest = flat_map items more ++ s.after n;
        items_are = s.items_are all ∙ ap (λ k. before ++ section_items items all (s.after k)) long ∙ ap (λ k. before ++ (a_count k ∷ (flat_map items all ++ s.after n))) long ∙ simp (flat_map-append, append_assoc);
        rest_bytes = bytes_both (flat_map items more) (s.after n) (blanks_bytes (n - length xs - 1)) (s.after_bytes n limits.1);
      }

  module _ {bs : List ℕ} (all_bytes : AllByRecursion Byte bs) {r : Reader} (front : ReadTo bs (bytes_of before) r) where
    count_refused : {e : LayoutRefusal} → CountStops r least greatest e → Refused bs e
    count_refused (no_count h) = subst (Refused bs) (sym h.0) (record { item = _; next = goes_next goes_count count_bytes all_bytes front; ends = read_short 2 front h.1 })
    count_refused (bad_count e s' n took outside) =
        subst (Refused bs) (sym e) (record {
          number = _;
          next = goes_next goes_count count_bytes all_bytes front;
          there = read_within front took;
          through = λ g. outside (s.count_kept g.parts g.limits.counts n g.rest (begins_is front took g));
        })

    -- refused at its count, or at an element
    pub section_refused : (stops : Reader → LayoutRefusal → Type 0) {e : LayoutRefusal} → ((n : ℕ) (there : Reader) → CountIs r there least greatest n → Stopped items good stops there n e → Refused bs e) → SectionStops items good stops r least greatest e → Refused bs e
    section_refused stops at_elements (at_count h) = count_refused h
    section_refused stops at_elements (at_element n there count_is h) = at_elements n there count_is h

-- a section of records
pub records_refused : {X : Type 0} (f : X → List ℕ) {before : List Item} {least greatest : ℕ} (s : Section (record_items f) Any before least greatest) {bs : List ℕ} → AllByRecursion Byte bs → {r : Reader} → ReadTo bs (bytes_of before) r → {e : LayoutRefusal} → SectionStops (record_items f) Any (CutAt (length (f s.blank))) r least greatest e → Refused bs e
records_refused f {before} s {bs} all_bytes front =
    section_refused s all_bytes front (CutAt (length (f s.blank)))
    (λ n there count_is h.
    let there_read = front_more (record_items f) before h.elements front count_is h.filled.took in
    let next = goes_next (goes_element s n h.elements s.blank count_is.1 h.fewer h.filled.fine tt) s.blank_bytes all_bytes there_read in
    subst (Refused bs) (sym h.stop.0) (record { item = _; next = next; ends = read_short (length (f s.blank)) there_read h.stop.1 }))

-- a text of n spaces
abbrev pub spaces : ℕ → List ℕ
spaces n = replicate n 32

pub spaces_bytes : (n : ℕ) → AllByRecursion Byte (spaces n)
spaces_bytes zero = tt
spaces_bytes (suc n) = (omega arith, spaces_bytes n)

pub text_bytes_good : (n : ℕ) → n ≤ 255 → AllByRecursion Byte (bytes_of (text_items (spaces n)))
text_bytes_good n h = let long : length (spaces n) ≡ n = length-replicate n 32 in (omega arith, bytes_both (a_text (spaces n) ∷ []) [] (All-append Byte (spaces n) [] (spaces_bytes n) tt) tt)

-- a section of texts; what a layout with these bytes has after its count are its texts
module _ {before : List Item} {least greatest : ℕ} (s : Section text_items GoodText before least greatest) (texts_kept : (p : Parts) → Counts p → (n : ℕ) (more : List ℕ) → encode p ≡ bytes_of before ++ (two_bytes n ++ more) → bytes_of (flat_map text_items p.texts) ≡ more) {bs : List ℕ} (all_bytes : AllByRecursion Byte bs) {r : Reader} (front : ReadTo bs (bytes_of before) r) where
  text_refused : (n : ℕ) (there : Reader) → CountIs r there least greatest n → {e : LayoutRefusal} (ts : List (List ℕ)) → length ts < n → {to : Reader} → Filled text_items GoodText there to ts → TextStops to e → Refused bs e
  text_refused n there count_is ts fewer filled (no_length h) =
      let goes = goes_element s n ts s.blank count_is.1 fewer filled.fine s.blank_good in
      let to_read = front_more text_items before ts front count_is filled.took in
      subst (Refused bs) (sym h.0) (record { item = _; next = goes_next goes s.blank_bytes all_bytes to_read; ends = read_short 1 to_read h.1 })
  text_refused n there count_is ts fewer filled (bad_length e after number length_took outside) =
      let goes = goes_element s n ts s.blank count_is.1 fewer filled.fine s.blank_good in
      let to_read = front_more text_items before ts front count_is filled.took in
      subst (Refused bs) (sym e) (record {
        number = _;
        next = goes_next goes s.blank_bytes all_bytes to_read;
        there = read_within to_read length_took;
        through = λ g. outside (length_good g.parts.texts ts number g.rest g.limits.counts.good_texts
            (texts_kept g.parts g.limits.counts n (bytes_of (flat_map text_items ts) ++ number ∷ g.rest)
            (begins_is to_read length_took g ∙ simp (flat_map-append, append_assoc))));
      })
  text_refused n there count_is ts fewer {to} filled (short_text after number length_took good h) =
      let long : length (spaces number) ≡ number = length-replicate number 32 in
      let base = before ++ head text_items n ts in
      let goes = goes_element s n ts (spaces number) count_is.1 fewer filled.fine (omega (arith, good.0), omega (arith, good.1)) in
      let length_there : Took to after (length (spaces number) ∷ []) = rw long length_took in
      let after_read = read_items base (a_length (length (spaces number)) ∷ []) (front_more text_items before ts front count_is filled.took) length_there in
      let next = goes_next (goes_on base (a_length (length (spaces number))) (a_text (spaces number) ∷ []) goes) (text_bytes_good number (omega (arith, good.1))).1 all_bytes after_read in
      subst (Refused bs) (sym h.0) (record { item = _; next = next; ends = read_short (length (spaces number)) after_read (omega (arith, h.1, long)) })

  pub texts_refused : {e : LayoutRefusal} → SectionStops text_items GoodText TextStops r least greatest e → Refused bs e
  texts_refused = section_refused s all_bytes front TextStops (λ n there count_is h. text_refused n there count_is h.elements h.fewer h.filled h.stop)
