-- Groups of nodes, as one node more comes behind an open group.
use Rattle.std.proofs.Common.{◌≡◌, ℕ, ◌+◌, ◌<◌, ◌≤◌, true, false, List, [], ◌∷◌, ◌++◌, get_or, drop, length, map, refl, sym, ap, ◌∙◌, inl}
use Rattle.std.proofs.Common.{inr, append-nil, append_assoc, arith}
use Rattle.std.specs.Prelude.{bytes_eq}
use Rattle.std.specs.List.{flat_map}
use Rattle.std.proofs.lemmas.Bool.{cases_Bool}
use Rattle.std.proofs.lemmas.List.{drop_all, drop_more}
use Rattle.std.proofs.lemmas.Slice.Eq.{bytes_eq-Decides}
use Rattle.node_core.specs.Node.{PreparedNode}
use Rattle.debug_lines.specs.Kept.{Group, alone, group_text, groups_of, joined}

-- the groups of the nodes that are left
abbrev pub left : List PreparedNode → ℕ → List Group
left nodes k = groups_of (map (λ (p : PreparedNode). p.node) (drop k nodes))

-- the text of an open group and of those behind it
abbrev pub told : Group → List Group → List ℕ
told g others = flat_map group_text (joined g others)

-- an open group takes in one that is at its place
joined-same : (g a : Group) (others : List Group) → bytes_eq g.site a.site ≡ true
    → joined g (joined a others) ≡ joined (record g { last = a.last }) others
joined-same g a [] same = rw same refl
joined-same g a (next ∷ others) same =
    let as_there : bytes_eq g.site next.site ≡ bytes_eq a.site next.site =
    ap (λ s. bytes_eq s next.site) ((bytes_eq-Decides g.site a.site).0 same) in
    elim (cases_Bool (bytes_eq a.site next.site)) [
      | inl alike ↦ let here_too : bytes_eq g.site next.site ≡ true = as_there ∙ alike in rw (alike, here_too, same) refl
      | inr apart ↦ let here_too : bytes_eq g.site next.site ≡ false = as_there ∙ apart in rw (apart, here_too, same) refl
    ]

-- and stands before one that is not
joined-other : (g a : Group) (others : List Group) → bytes_eq g.site a.site ≡ false → joined g (joined a others) ≡ g ∷ joined a others
joined-other g a [] other = rw other refl
joined-other g a (next ∷ others) other = elim (cases_Bool (bytes_eq a.site next.site)) [
  | inl alike ↦ rw (alike, other) refl
  | inr apart ↦ rw (apart, other) refl
]

-- what is told of it and of those behind it, where the next of them is a node by itself
pub next-same : (g a next : Group) (text : List ℕ) (others : List Group) → a ≡ next → bytes_eq g.site a.site ≡ true
    → text ++ told (record g { last = a.last }) others ≡ text ++ told g (joined next others)
next-same g a next text others is same =
    ap (λ gs. text ++ flat_map group_text gs) (sym (joined-same g a others same)) ∙ ap (λ n. text ++ told g (joined n others)) is

pub next-other : (g a next : Group) (before after : List ℕ) (others : List Group) → a ≡ next → bytes_eq g.site a.site ≡ false
    → after ≡ before ++ group_text g → after ++ told a others ≡ before ++ told g (joined next others)
next-other g a next before after others is other written =
    ap (λ bs. bs ++ told a others) written ∙ append_assoc before (group_text g) (told a others)
    ∙ ap (λ gs. before ++ flat_map group_text gs) (sym (joined-other g a others other)) ∙ ap (λ n. before ++ told g (joined n others)) is

-- the groups that are left, where the next node is the first of them
left-next : (nodes : List PreparedNode) (k : ℕ) (n : PreparedNode) → k < length nodes → n ≡ get_or nodes k n
    → left nodes k ≡ joined (alone n.node) (left nodes (k + 1))
left-next nodes k n within is =
    let cut : drop k nodes ≡ n ∷ drop (k + 1) nodes = drop_more nodes k n within ∙ ap (λ p. p ∷ drop (k + 1) nodes) (sym is) in
    ap (λ ns. groups_of (map (λ (p : PreparedNode). p.node) ns)) cut

-- the first node begins a group, if there is one
pub first-told : (nodes others : List PreparedNode) (n : PreparedNode) (g : Group) (text : List ℕ) → nodes ≡ n ∷ others → g ≡ alone n.node
    → text ++ told g (left others 0) ≡ text ++ flat_map group_text (groups_of (map (λ (p : PreparedNode). p.node) nodes))
first-told nodes others n g text cut is = rw (cut, is) refl

pub none-told : (nodes : List PreparedNode) (text : List ℕ) → length nodes ≡ 0
    → text ≡ text ++ flat_map group_text (groups_of (map (λ (p : PreparedNode). p.node) nodes))
none-told [] text none = sym (append-nil text)
none-told (n ∷ nodes) text none = absurd (omega arith)

pub more : (nodes : List PreparedNode) (k : ℕ) (n : PreparedNode) (g next : Group) (before after whole : List ℕ)
    → k < length nodes → n ≡ get_or nodes k n
    → ((others : List Group) → after ++ told next others ≡ before ++ told g (joined (alone n.node) others))
    → before ++ told g (left nodes k) ≡ whole → after ++ told next (left nodes (k + 1)) ≡ whole
more nodes k n g next before after whole within is step so_far =
    step (left nodes (k + 1)) ∙ ap (λ gs. before ++ told g gs) (sym (left-next nodes k n within is)) ∙ so_far

-- no node is left
pub more-none : (nodes : List PreparedNode) (k : ℕ) (g : Group) (before after whole : List ℕ) → length nodes ≤ k
    → after ≡ before ++ group_text g → before ++ told g (left nodes k) ≡ whole → after ≡ whole
more-none nodes k g before after whole past written so_far =
    let none : left nodes k ≡ [] = ap (λ ns. groups_of (map (λ (p : PreparedNode). p.node) ns)) (drop_all k nodes past) in
    written ∙ ap (λ bs. before ++ bs) (sym (append-nil (group_text g)))
    ∙ ap (λ gs. before ++ told g gs) (sym none) ∙ so_far
