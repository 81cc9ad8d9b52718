-- Texts of operators between and in front of parts.
use Rattle.std.proofs.Common.{◌≡◌, ℕ, None, List, ◌∷◌, ◌++◌, codes, refl, sym, ap, subst, ◌∙◌, append_assoc}
use Rattle.fy_base.specs.Outside.{Bytes}
use Rattle.fy_base.specs.declared.data.BinOp.{BinOp}
use Rattle.fy_base.specs.declared.data.BinOp.TheVariants as op
use Rattle.fy_base.specs.declared.data.Place.{Place}
use Rattle.fy_lexer.specs.declared.token.Token.{Token}
use Rattle.fy_lexer.specs.declared.token.TokenKind.{TokenKind}
use Rattle.fy_lexer.specs.Spellings.{Spells}
use Rattle.fy_lexer.specs.Tokens.{names_past}
use Rattle.fy_lexer.proofs.OverLemmas.{blank-ends}
use Rattle.fy_syntax.specs.Print.{operator_text}
use Rattle.fy_syntax.specs.Trees.{Tree, Links}
use Rattle.fy_syntax.specs.Signs.{Level, token, front, operator_sign, operator_level}
use Rattle.fy_syntax.specs.Spells.{chain_of, SpellsBefore, MoreLinks}
use Rattle.fy_syntax.proofs.KindTexts.{kind_text, spelled}
use Rattle.fy_phrase.specs.Tree as plain
use Rattle.fy_phrase.specs.Alike.{Alike}
use Rattle.fy_expand.specs.Core.{core, linked}
use Rattle.fy_expand.specs.Faults.{fault, links_fault}
use Rattle.fy_expand.specs.Scope.{Scope}
use Rattle.fy_again.proofs.FaultLemmas.{IsClear, both_fine, first_part, second_part}
use Rattle.fy_again.proofs.EndLemmas.{Follows, longest}
use Rattle.fy_again.proofs.ReadLemmas.{reads_blank, reads_token, reads_same, peel}
use Rattle.fy_again.proofs.PhraseLemmas.{ShowsPhrase}

-- a sign is a token that leaves the names as they are
pub record IsSign (names : List Bytes) (k : TokenKind) (text : Bytes) : Type 0 where
  pub spelled_so : Spells names k text
  pub stays : names_past k text names ≡ names

operator_is : (names : List Bytes) (o : BinOp) → IsSign names (operator_sign o) (kind_text names (operator_sign o))
operator_is names = elim [
  | op.Add ↦ record { spelled_so = spelled names (operator_sign op.Add) tt tt; stays = refl }
  | op.Sub ↦ record { spelled_so = spelled names (operator_sign op.Sub) tt tt; stays = refl }
  | op.Mul ↦ record { spelled_so = spelled names (operator_sign op.Mul) tt tt; stays = refl }
  | op.Div ↦ record { spelled_so = spelled names (operator_sign op.Div) tt tt; stays = refl }
  | op.Rem ↦ record { spelled_so = spelled names (operator_sign op.Rem) tt tt; stays = refl }
  | op.Eq ↦ record { spelled_so = spelled names (operator_sign op.Eq) tt tt; stays = refl }
  | op.Ne ↦ record { spelled_so = spelled names (operator_sign op.Ne) tt tt; stays = refl }
  | op.Lt ↦ record { spelled_so = spelled names (operator_sign op.Lt) tt tt; stays = refl }
  | op.Le ↦ record { spelled_so = spelled names (operator_sign op.Le) tt tt; stays = refl }
  | op.Gt ↦ record { spelled_so = spelled names (operator_sign op.Gt) tt tt; stays = refl }
  | op.Ge ↦ record { spelled_so = spelled names (operator_sign op.Ge) tt tt; stays = refl }
  | op.And ↦ record { spelled_so = spelled names (operator_sign op.And) tt tt; stays = refl }
  | op.Or ↦ record { spelled_so = spelled names (operator_sign op.Or) tt tt; stays = refl }
]

operator_with_blank : (names : List Bytes) (o : BinOp) → kind_text names (operator_sign o) ++ codes " " ≡ operator_text o
operator_with_blank names = elim [
  | op.Add ↦ refl
  | op.Sub ↦ refl
  | op.Mul ↦ refl
  | op.Div ↦ refl
  | op.Rem ↦ refl
  | op.Eq ↦ refl
  | op.Ne ↦ refl
  | op.Lt ↦ refl
  | op.Le ↦ refl
  | op.Gt ↦ refl
  | op.Ge ↦ refl
  | op.And ↦ refl
  | op.Or ↦ refl
]

-- one more operator with its operand
one_link : Links → BinOp → Place → Tree → Links
one_link Links.no_links o p u = Links.and_link o p u Links.no_links
one_link (Links.and_link q at t more) o p u = Links.and_link q at t (one_link more o p u)

links_spelled : (o : BinOp) (p : Place) (u : Tree) (m r : List Token) {c l : Level} {more : Links} {us k : List Token} → operator_level o ≡ c → MoreLinks c l more us k →
    k ≡ token (operator_sign o) p ∷ m → SpellsBefore l u m r → MoreLinks c l (one_link more o p u) us r
unfolding one_link
links_spelled o p u m r {c = c} {l = l} e MoreLinks.no_links i z = subst (λ j. MoreLinks c l (Links.and_link o p u Links.no_links) j r) (sym i) (MoreLinks.and_link e z MoreLinks.no_links)
links_spelled o p u m r e (MoreLinks.and_link f x y) i z = MoreLinks.and_link f x (links_spelled o p u m r e y i z)

linked_more : (s : Scope) (left : plain.Tree) (more : Links) (o : BinOp) (p : Place) (u : Tree) → linked s left (one_link more o p u) ≡ plain.Tree.binary o (linked s left more) (core s u) p
unfolding one_link
linked_more s left Links.no_links o p u = refl
linked_more s left (Links.and_link q at t more) o p u = linked_more s (plain.Tree.binary q left (core s t) at) more o p u

chain_means : (s : Scope) (t : Tree) (more : Links) (at : Place) (o : BinOp) (p : Place) (u : Tree) →
    core s (chain_of t (one_link more o p u) at) ≡ plain.Tree.binary o (core s (chain_of t more at)) (core s u) p
unfolding one_link
chain_means s t Links.no_links at o p u = refl
chain_means s t (Links.and_link q here b more) at o p u = linked_more s (core s t) (Links.and_link q here b more) o p u

links_more : (r : Scope) (more : Links) (o : BinOp) (p : Place) (u : Tree) → None ≡ links_fault r more → None ≡ fault r u → None ≡ links_fault r (one_link more o p u)
unfolding one_link
links_more r Links.no_links o p u h g = both_fine _ _ g refl
links_more r (Links.and_link q at t more) o p u h g =
    both_fine _ _ (first_part (fault r t) (links_fault r more) h) (links_more r more o p u (second_part (fault r t) (links_fault r more) h) g)

chain_clear : (r : Scope) (t : Tree) (more : Links) (at : Place) (o : BinOp) (p : Place) (u : Tree) → None ≡ fault r (chain_of t more at) → None ≡ fault r u → None ≡ fault r (chain_of t (one_link more o p u) at)
unfolding one_link
chain_clear r t Links.no_links at o p u h g = both_fine _ _ h (both_fine _ _ g refl)
chain_clear r t (Links.and_link q here b more) at o p u h g =
    both_fine _ _ (first_part (fault r t) (links_fault r (Links.and_link q here b more)) h)
    (links_more r (Links.and_link q here b more) o p u (second_part (fault r t) (links_fault r (Links.and_link q here b more)) h) g)

-- a tree with one more operator
pub record Joined (s : Scope) (l : Level) (o : BinOp) (p : Place) (t u : Tree) (us r : List Token) : Type 0 where
  pub tree : Tree
  pub spells : SpellsBefore l tree us r
  pub means : core s tree ≡ plain.Tree.binary o (core s t) (core s u) p
  pub clear : IsClear s t → IsClear s u → IsClear s tree

-- how a level joins what stands before an operator and behind it
abbrev pub Joins : Scope → Level → Level → Level → BinOp → Type 0
Joins s l earlier behind o =
    (p : Place) (t u : Tree) (us m r : List Token) → SpellsBefore earlier t us (token (operator_sign o) p ∷ m) → SpellsBefore behind u m r → Joined s l o p t u us r

pub joins_sum : (s : Scope) (o : BinOp) → operator_level o ≡ Level.sum → Joins s Level.sum Level.sum Level.product o
joins_sum s o e p _ u us m r (SpellsBefore.sum {t = t} {more = more} x y) z = record {
  tree = chain_of t (one_link more o p u) (front us);
  spells = SpellsBefore.sum {t = t} {more = one_link more o p u} {ts = us} x (links_spelled o p u m r e y refl z);
  means = chain_means s t more (front us) o p u;
  clear = λ i j k same. chain_clear k t more (front us) o p u (i k same) (j k same);
}

pub joins_product : (s : Scope) (o : BinOp) → operator_level o ≡ Level.product → Joins s Level.product Level.product Level.prefixed o
joins_product s o e p _ u us m r (SpellsBefore.product {t = t} {more = more} x y) z = record {
  tree = chain_of t (one_link more o p u) (front us);
  spells = SpellsBefore.product {t = t} {more = one_link more o p u} {ts = us} x (links_spelled o p u m r e y refl z);
  means = chain_means s t more (front us) o p u;
  clear = λ i j k same. chain_clear k t more (front us) o p u (i k same) (j k same);
}

pub joins_both : (s : Scope) (o : BinOp) → operator_level o ≡ Level.both → Joins s Level.both Level.both Level.relation o
joins_both s o e p _ u us m r (SpellsBefore.both {t = t} {more = more} x y) z = record {
  tree = chain_of t (one_link more o p u) (front us);
  spells = SpellsBefore.both {t = t} {more = one_link more o p u} {ts = us} x (links_spelled o p u m r e y refl z);
  means = chain_means s t more (front us) o p u;
  clear = λ i j k same. chain_clear k t more (front us) o p u (i k same) (j k same);
}

pub joins_either : (s : Scope) (o : BinOp) → operator_level o ≡ Level.either → Joins s Level.either Level.either Level.both o
joins_either s o e p _ u us m r (SpellsBefore.either {t = t} {more = more} x y) z = record {
  tree = chain_of t (one_link more o p u) (front us);
  spells = SpellsBefore.either {t = t} {more = one_link more o p u} {ts = us} x (links_spelled o p u m r e y refl z);
  means = chain_means s t more (front us) o p u;
  clear = λ i j k same. chain_clear k t more (front us) o p u (i k same) (j k same);
}

pub joins_relation : (s : Scope) (o : BinOp) → operator_level o ≡ Level.relation → Joins s Level.relation Level.sum Level.sum o
joins_relation s o e p t u us m r x z = record {
  tree = Tree.chain t (Links.and_link o p u Links.no_links) (front us);
  spells = SpellsBefore.related e x z;
  means = refl;
  clear = λ i j k same. both_fine _ _ (i k same) (both_fine _ _ (j k same) refl);
}

grouped_four : (a w k b rest : Bytes) → (((a ++ w) ++ k) ++ b) ++ rest ≡ a ++ (w ++ (k ++ (b ++ rest)))
grouped_four a w k b rest = append_assoc ((a ++ w) ++ k) b rest ∙ (append_assoc (a ++ w) k (b ++ rest) ∙ append_assoc a w (k ++ (b ++ rest)))

-- `p op q`
pub shows_binary : (names : List Bytes) (s : Scope) (v : ℕ → ℕ) (l earlier behind : Level) (o : BinOp) → Joins s l earlier behind o → (p q : plain.Tree) (at : Place) (one two : Bytes) →
    ShowsPhrase names s v earlier p one → ShowsPhrase names s v behind q two → ShowsPhrase names s v l (plain.Tree.binary o p q at) (((one ++ codes " ") ++ operator_text o) ++ two)
shows_binary names s v l earlier behind o join p q at one two h g =
    let sign = operator_is names o in
    let text = kind_text names (operator_sign o) in
    record {
      own = h.own ++ operator_sign o ∷ g.own;
      reads = λ rest ks f r.
          let later = reads_blank names (two ++ rest) (g.own ++ ks) (g.reads rest ks f r) in
          let here =
          reads_token names (operator_sign o) text (32 ∷ (two ++ rest)) (g.own ++ ks) sign.spelled_so sign.stays
          (longest names (operator_sign o) text (32 ∷ (two ++ rest)) sign.spelled_so (Follows.ending blank-ends)) later in
          let same : text ++ (32 ∷ (two ++ rest)) ≡ operator_text o ++ (two ++ rest) = sym (append_assoc text (codes " ") (two ++ rest)) ∙ ap (λ t. t ++ (two ++ rest)) (operator_with_blank names o) in
          reads_same names (one ++ (32 ∷ (text ++ (32 ∷ (two ++ rest))))) ((((one ++ codes " ") ++ operator_text o) ++ two) ++ rest) _ _
          (ap (λ t. one ++ (32 ∷ t)) same ∙ sym (grouped_four one (codes " ") (operator_text o) two rest)) (sym (append_assoc h.own (operator_sign o ∷ g.own) ks))
          (h.reads (32 ∷ (text ++ (32 ∷ (two ++ rest)))) (operator_sign o ∷ (g.own ++ ks)) (Follows.ending blank-ends)
          (reads_blank names (text ++ (32 ∷ (two ++ rest))) (operator_sign o ∷ (g.own ++ ks)) here));
      taken = λ us ks e.
          let x = h.taken us (operator_sign o ∷ (g.own ++ ks)) (e ∙ append_assoc h.own (operator_sign o ∷ g.own) ks) in
          let i = peel x.rest (operator_sign o) (g.own ++ ks) x.left in
          let y = g.taken i.rest ks i.left in
          let w = join i.place x.tree y.tree us i.rest y.rest (subst (λ k. SpellsBefore earlier x.tree us k) i.is x.spells) y.spells in
          record { tree = w.tree; rest = y.rest; spells = w.spells; left = y.left; means = (subst (λ z. Alike v (plain.Tree.binary o p q at) z) (sym w.means) (Alike.binary x.means.0 y.means.0), w.clear x.means.1 y.means.1, λ i. absurd i) };
    }
