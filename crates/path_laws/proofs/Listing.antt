-- What is in a list.
use Rattle.std.proofs.Common.{◌≡◌, ℕ, ◌<◌, not, ◌||◌, eqb, ◌⊎◌, List, [], ◌∷◌, ◌++◌, length, get_or, Decides, sym, refl, ap, ◌∙◌, inl, inr, ⊎_elim, arith}
use Rattle.std.specs.List.{AllByRecursion}
use Rattle.std.proofs.ByRecursion.{All-get_or, All-from_get_or, Decides-by_and}
use Rattle.std.proofs.lemmas.List.{get_or_append_left, get_or_push, get_or_default, length_push}
use Rattle.std.proofs.lemmas.Bool.{cases_eq, cases_lt}
use Rattle.std.proofs.lemmas.Bool.Decides.{Decides-eqb, Decides-not, Decides-or, Decides-and, Decides-like, Decides-by_or}
use Rattle.parts.specs.declared.Link.{Link}
use Rattle.path_laws.specs.Ranks.{Listed, Ready, lists, lists_sources, is_ready}

pub listed_push : (xs : List ℕ) (a x : ℕ) → Listed (xs ++ a ∷ []) x → (x ≡ a) ⊎ Listed xs x
listed_push xs a x h =
    ⊎_elim
    (λ l. inr (h.0, l, sym (get_or_append_left xs (a ∷ []) 0 h.0 l) ∙ h.2))
    (λ ge. let last : h.0 ≡ length xs = omega (arith, h.1, length_push xs a) in inl (sym h.2 ∙ ap (λ k. get_or (xs ++ a ∷ []) k 0) last ∙ get_or_push xs a 0 (length xs) refl))
    (cases_lt h.0 (length xs))

pub listed_more : (xs : List ℕ) (a x : ℕ) → Listed xs x → Listed (xs ++ a ∷ []) x
listed_more xs a x h = (h.0, omega (arith, h.1, length_push xs a), get_or_append_left xs (a ∷ []) 0 h.0 h.1 ∙ h.2)

pub listed_last : (xs : List ℕ) (a : ℕ) → Listed (xs ++ a ∷ []) a
listed_last xs a = (length xs, omega (arith, length_push xs a), get_or_push xs a 0 (length xs) refl)

-- the tests that work the order out decide what they stand for
pub lists_decides : (xs : List ℕ) (a : ℕ) → Decides (lists xs a) (Listed xs a)
lists_decides xs a =
    Decides-like (lists xs a)
    (λ h. (h.0, h.1, h.2 0))
    (λ h. (h.0, h.1, λ d. get_or_default xs h.0 d 0 h.1 ∙ h.2))
    (Decides-by_or (λ x. eqb x a) (λ x. x ≡ a) (λ ys. lists ys a) (λ x. Decides-eqb x a) refl (λ _ _. refl) xs)

abbrev SourceListed : List ℕ → ℕ → Link → Type 0
SourceListed order a l = l.target ≡ a → Listed order l.source

source_decides : (order : List ℕ) (a : ℕ) (l : Link) → Decides (not (eqb l.target a) || lists order l.source) (SourceListed order a l)
source_decides order a l =
    Decides-like (not (eqb l.target a) || lists order l.source)
    (λ h e. ⊎_elim (λ ne. absurd (ne e)) (λ s. s) h)
    (λ h. ⊎_elim (λ e. inr (h e)) (λ ne. inl ne) (cases_eq l.target a))
    (Decides-or (not (eqb l.target a)) (lists order l.source) (Decides-not (eqb l.target a) (Decides-eqb l.target a)) (lists_decides order l.source))

sources_decide : (links : List Link) (order : List ℕ) (a : ℕ) → Decides (lists_sources order a links) (AllByRecursion (SourceListed order a) links)
sources_decide links order a = Decides-by_and (λ l. not (eqb l.target a) || lists order l.source) (SourceListed order a) (λ ls. lists_sources order a ls) (source_decides order a) refl (λ _ _. refl) links

pub ready_decides : (count : ℕ) (links : List Link) (order : List ℕ) (a : ℕ) → a < count → Decides (is_ready links order a) (Ready count links order a)
ready_decides count links order a l =
    Decides-like (is_ready links order a)
    (λ h. record { activity = l; unranked = h.0; sources = λ k w e. All-get_or (SourceListed order a) links k (record { source = 0; target = 0 }) w h.1 e })
    (λ r. (r.unranked, All-from_get_or (SourceListed order a) links (record { source = 0; target = 0 }) (λ k w e. r.sources k w e)))
    (Decides-and (not (lists order a)) (lists_sources order a links) (Decides-not (lists order a) (lists_decides order a)) (sources_decide links order a))
