-- The links into an activity, one by one.
use Rattle.std.proofs.Common.{◌≡◌, ℕ, ◌+◌, ◌<◌, ◌≤◌, cond, eqb, List, [], ◌∷◌, ◌++◌, length, drop, Some, Ok, Err, Result, sym, ap, ◌∙◌, append_assoc, add-one}
use Rattle.std.specs.Result.{OkIff, result_ok}
use Rattle.std.proofs.lemmas.List.{drop_more, drop_all, map-append}
use Rattle.std.proofs.lemmas.Bool.{cond-true, cond-false, eq-eqb, ne_eqb}
use Rattle.lists.specs.declared.list.Full.{Full}
use Rattle.lists.specs.Lists.{PushAnswers}
use Rattle.conditions.specs.declared.ground.Incoming.{Incoming}
use Rattle.conditions.specs.Values.{links_of}
use Rattle.parts.specs.declared.Link.{Link}
use Rattle.path_laws.specs.Paths.{link_at}
use Rattle.rules.specs.Rules.{into}

into_at : (links : List Link) (k a : ℕ) → k < length links → into k (drop k links) a ≡ cond (eqb (link_at links k).target a) (k ∷ into (k + 1) (drop (k + 1) links) a) (into (k + 1) (drop (k + 1) links) a)
into_at links k a h =
    ap (λ l. into k l a) (drop_more links k (record { source = 0; target = 0 }) h)
    ∙ ap (λ n. cond (eqb (link_at links k).target a) (k ∷ into n (drop (k + 1) links) a) (into n (drop (k + 1) links) a)) (sym (add-one k))

pub into_here : (links : List Link) (k a : ℕ) → k < length links → (link_at links k).target ≡ a → into k (drop k links) a ≡ k ∷ into (k + 1) (drop (k + 1) links) a
into_here links k a h e = into_at links k a h ∙ cond-true _ _ _ (eq-eqb _ a e)

pub into_past : (links : List Link) (k a : ℕ) → k < length links → ((link_at links k).target ≡ a → ⊥) → into k (drop k links) a ≡ into (k + 1) (drop (k + 1) links) a
into_past links k a h e = into_at links k a h ∙ cond-false _ _ _ (ne_eqb _ a e)

pub into_end : (links : List Link) (k a : ℕ) → length links ≤ k → into k (drop k links) a ≡ []
into_end links k a h = ap (λ l. into k l a) (drop_all k links h)

-- one link more is listed
pub one_more : (list more : List Incoming) (x : Incoming) (rest : List ℕ) → more ≡ list ++ x ∷ [] → links_of more ++ rest ≡ links_of list ++ (x.link ∷ rest)
one_more list more x rest e =
    ap (λ l. links_of l ++ rest) e
    ∙ ap (λ l. l ++ rest) (map-append (λ (i : Incoming). i.link) list (x ∷ []))
    ∙ append_assoc (links_of list) (x.link ∷ []) rest

-- a number that fits a byte is the same as a byte
pub same_byte : {E : Type 0} (r : Result ℕ E) (P : Type 0) (n x : ℕ) → OkIff r P n → Some x ≡ result_ok r → x ≡ n
same_byte (Ok y) P n x h e = cc (h.1)
same_byte (Err y) P n x h e = cc

-- what is added to a list with a place is at its end
pub one_pushed : (n : ℕ) (r : Result (Unit {0}) Full) (u : Unit {0}) (list : List Incoming) (x : Incoming) (more : List Incoming) → PushAnswers n list x more r → Some u ≡ result_ok r → more ≡ list ++ x ∷ []
one_pushed n (Ok v) u list x more p e = p.1
one_pushed n (Err full) u list x more p e = cc

-- what is listed, and what is still to come
module _ (links : List Link) (a : ℕ) (k : ℕ) (list : List Incoming) (here : k < length links) (so_far : links_of list ++ into k (drop k links) a ≡ into 0 links a) where
  pub with_one : (more : List Incoming) (x : Incoming) → (link_at links k).target ≡ a → x.link ≡ k → more ≡ list ++ x ∷ [] → links_of more ++ into (k + 1) (drop (k + 1) links) a ≡ into 0 links a
  with_one more x e n is =
      one_more list more x _ is
      ∙ ap (λ (m : ℕ). links_of list ++ (m ∷ into (k + 1) (drop (k + 1) links) a)) n
      ∙ ap (λ l. links_of list ++ l) (sym (into_here links k a here e))
      ∙ so_far

  pub with_none : ((link_at links k).target ≡ a → ⊥) → links_of list ++ into (k + 1) (drop (k + 1) links) a ≡ into 0 links a
  with_none e = ap (λ l. links_of list ++ l) (sym (into_past links k a here e)) ∙ so_far
