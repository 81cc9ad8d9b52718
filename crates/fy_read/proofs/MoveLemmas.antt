-- Each piece that a reader takes leads from where it is to where it is next.
use Rattle.std.proofs.Common.{◌≡◌, ℕ, suc, ◌+◌, ◌-◌, ◌<◌, ◌≤◌, true, false, List, [], ◌∷◌, map, length, refl, ap, sym, ◌∙◌, arith}
use Rattle.std.specs.Prelude.{Some, None}
use Rattle.std.specs.Option.{is_some}
use Rattle.std.proofs.lemmas.List.{length-map}
use Rattle.fy_base.specs.Outside.{Bytes}
use Rattle.fy_types.specs.Types.{PlainType}
use Rattle.fy_types.specs.Words.{is_name_like, is_word}
use Rattle.fy_read.specs.declared.counts.Counted.{Counted}
use Rattle.fy_read.specs.declared.counts.Counted.TheVariants as counted
use Rattle.fy_read.specs.declared.read.Awaited.{Awaited}
use Rattle.fy_read.specs.declared.read.Awaited.TheVariants as awaited
use Rattle.fy_read.specs.declared.words.NodeWord.{NodeWord}
use Rattle.fy_read.specs.declared.words.NodeWord.TheVariants as node
use Rattle.fy_read.specs.declared.words.TypeWord.{TypeWord}
use Rattle.fy_read.specs.Depth.{deep_part, within, outside}
use Rattle.fy_derive.specs.Derivations.{by_ns, rule, no_derivations, most_nodes, most_nesting}
use Rattle.fy_read.specs.Measures.{want_of, shape_of, deep_of, nest_at, open_at}
use Rattle.fy_read.specs.Opened.{PlainOpen, in_sub, in_alt, in_left, in_right, in_meet, in_rule, PlainNodes, with_node, given, missing, extra, needed, needed_by, AreWaiting}
use Rattle.fy_read.specs.OpenTypes.{PlainLevel, PlainLevels, no_levels, with_inner, with_field, with_part, with_domain, with_open, closed_by, with_closed, TakesJoint}
use Rattle.fy_read.specs.Readers.{reached_by}
use Rattle.fy_read.specs.Refusals.{most_open_parens}
use Rattle.fy_read.specs.Shape.{no_number, shape, shape_of_word, shape_of_number}
use Rattle.fy_read.specs.Spelling.{word, number, sign, open_bracket, close_bracket, open_paren, close_paren, colon, arrow, ampersand}
use Rattle.fy_read.specs.Steps.{at, after, after_known, after_node, after_node_word, after_bracket, node_word, node_text, is_type_word, type_word, part_type, least, greatest, wanted}
use Rattle.fy_read.proofs.ByteLemmas.{chosen_so, chosen_not}
use Rattle.fy_read.proofs.EndLemmas.{nesting_word, ended_open, ended_rule}
use Rattle.fy_read.proofs.MeasureLemmas.{Moves, push_some, given_shape, deep-field, deep-part, deep-domain, deep-closed, many-nesting}
use Rattle.fy_read.proofs.OpenLemmas.{given_needed}
use Rattle.fy_read.proofs.WordTable.{words_known}

-- ---- the word of a node
pub known : (x : NodeWord) → node_word (node_text x) ≡ Some x
known node.Ns = words_known.0
known node.Sub = words_known.1
known node.Meet = words_known.2
known node.Alt = words_known.3
known node.Left = words_known.4
known node.Right = words_known.5
known node.Rule = words_known.6

pub node_leads : (n : PlainNodes) (k : ℕ) (x : NodeWord) → n.whole ≡ None →
    after (reached_by awaited.Node n k) (word (node_text x)) ≡ Some (after_node (extra n.waiting) x)
node_leads n k x none =
    ap (λ o. after_node_word (needed_by o n.waiting) (node_text x)) none ∙ ap (after_known (extra n.waiting)) (known x)

node_moves : {q : ℕ} {b : Awaited} {m : PlainNodes} {Ks : PlainLevels} (x : NodeWord) (n : PlainNodes) (Ls : PlainLevels) → n.whole ≡ None →
    q < most_nodes → length n.waiting < most_nesting → after_node (extra n.waiting) x ≡ reached_by b m (length Ks.outer) →
    shape_of_word (map missing n.waiting) (Some x) ≡ shape_of b m → outside ≡ nest_at b Ks → 0 ≡ open_at b Ks →
    Moves q (q + 1) awaited.Node n Ls (word (node_text x)) b m Ks
node_moves x n Ls none few shallow leads shapes nests opens = record {
  leads = node_leads n (length Ls.outer) x none ∙ ap Some leads;
  shape = ap (shape_of_word (map missing n.waiting)) (known x) ∙ shapes;
  nest = nests;
  parens = opens;
  words = omega arith;
  few = λ h. omega (arith, few);
  shallow = omega (arith, shallow, length-map n.waiting missing);
  few_open = λ h. omega (arith, opens);
  types = omega arith;
}

pub move_sub : {q : ℕ} (n : PlainNodes) (Ls : PlainLevels) → n.whole ≡ None → q < most_nodes → length n.waiting < most_nesting →
    Moves q (q + 1) awaited.Node n Ls (word (node_text node.Sub)) awaited.Bracket n Ls
move_sub n Ls none few shallow = node_moves node.Sub n Ls none few shallow refl refl refl refl

pub move_meet : {q : ℕ} (n : PlainNodes) (Ls : PlainLevels) → n.whole ≡ None → q < most_nodes → length n.waiting < most_nesting →
    Moves q (q + 1) awaited.Node n Ls (word (node_text node.Meet)) (awaited.Count counted.Members) n Ls
move_meet n Ls none few shallow = node_moves node.Meet n Ls none few shallow refl refl refl refl

pub move_alt : {q : ℕ} (n : PlainNodes) (Ls : PlainLevels) → n.whole ≡ None → q < most_nodes → length n.waiting < most_nesting →
    Moves q (q + 1) awaited.Node n Ls (word (node_text node.Alt)) (awaited.Count counted.Alternatives) n Ls
move_alt n Ls none few shallow = node_moves node.Alt n Ls none few shallow refl refl refl refl

pub move_rule : {q : ℕ} (n : PlainNodes) (Ls : PlainLevels) → n.whole ≡ None → q < most_nodes → length n.waiting < most_nesting →
    Moves q (q + 1) awaited.Node n Ls (word (node_text node.Rule)) (awaited.Count counted.Premises) n Ls
move_rule n Ls none few shallow = node_moves node.Rule n Ls none few shallow refl refl refl refl

pub move_ns : {q : ℕ} (n : PlainNodes) (Ls : PlainLevels) → n.whole ≡ None → AreWaiting n.waiting → q < most_nodes →
    length n.waiting < most_nesting →
    Moves q (q + 1) awaited.Node n Ls (word (node_text node.Ns)) awaited.Node (given n.waiting by_ns) Ls
move_ns n Ls none waiting few shallow =
    node_moves node.Ns n Ls none few shallow (ap (λ k. at k 0 awaited.Node) (sym (given_needed n.waiting waiting by_ns).0))
    (ap (λ S. shape S false no_number) (given_shape n.waiting waiting by_ns)) refl refl

needed-open : (o : PlainOpen) (n : PlainNodes) → n.whole ≡ None → missing o ≡ 1 → suc (extra n.waiting) ≡ needed (with_node o n)
needed-open o n none one = omega (arith, one, ap (λ w. needed_by w (o ∷ n.waiting)) none)

pub move_left : {q : ℕ} (n : PlainNodes) (Ls : PlainLevels) → n.whole ≡ None → q < most_nodes → length n.waiting < most_nesting →
    Moves q (q + 1) awaited.Node n Ls (word (node_text node.Left)) awaited.Node (with_node in_left n) Ls
move_left n Ls none few shallow =
    node_moves node.Left n Ls none few shallow (ap (λ k. at k 0 awaited.Node) (needed-open in_left n none refl)) refl refl refl

pub move_right : {q : ℕ} (n : PlainNodes) (Ls : PlainLevels) → n.whole ≡ None → q < most_nodes → length n.waiting < most_nesting →
    Moves q (q + 1) awaited.Node n Ls (word (node_text node.Right)) awaited.Node (with_node in_right n) Ls
move_right n Ls none few shallow =
    node_moves node.Right n Ls none few shallow (ap (λ k. at k 0 awaited.Node) (needed-open in_right n none refl)) refl refl refl

-- ---- the number of a node
number_moves : {q : ℕ} (o : PlainOpen) (n : PlainNodes) (Ls : PlainLevels) (c : Counted) (x : ℕ) → n.whole ≡ None → AreWaiting n.waiting →
    least c ≤ x → x ≤ greatest c → 0 < missing o → wanted c x ≡ missing o →
    shape_of_number (map missing n.waiting) (want_of c) x ≡ shape (missing o ∷ map missing n.waiting) false no_number →
    Moves q q (awaited.Count c) n Ls (number x) awaited.Node (with_node o n) Ls
number_moves o n Ls c x none waiting low high some many shapes = record {
  leads = (ended_open {w = []} o n Ls c x none waiting low high some many).at;
  shape = shapes;
  nest = refl;
  parens = refl;
  words = omega arith;
  few = λ h. h;
  shallow = omega arith;
  few_open = λ h. omega arith;
  types = omega arith;
}

pub move_index : {q : ℕ} (n : PlainNodes) (Ls : PlainLevels) (x : ℕ) → n.whole ≡ None → AreWaiting n.waiting → x ≤ greatest counted.Alternatives →
    Moves q q (awaited.Count counted.Alternatives) n Ls (number x) awaited.Node (with_node (in_alt x) n) Ls
move_index n Ls x none waiting high =
    number_moves (in_alt x) n Ls counted.Alternatives x none waiting (omega arith) high (omega arith) refl refl

pub move_members : {q : ℕ} (n : PlainNodes) (Ls : PlainLevels) (x : ℕ) → n.whole ≡ None → AreWaiting n.waiting → 2 ≤ x →
    x ≤ greatest counted.Members →
    Moves q q (awaited.Count counted.Members) n Ls (number x) awaited.Node (with_node (in_meet x no_derivations) n) Ls
move_members n Ls x none waiting low high =
    number_moves (in_meet x no_derivations) n Ls counted.Members x none waiting low high (omega (arith, low)) (omega arith)
    (ap (λ S. shape S false no_number) (push_some x (map missing n.waiting) (omega (arith, low)) ∙ ap (λ k. k ∷ map missing n.waiting) (omega arith)))

pub move_premises : {q : ℕ} (n : PlainNodes) (Ls : PlainLevels) (x : ℕ) → n.whole ≡ None → AreWaiting n.waiting → 0 < x →
    x ≤ greatest counted.Premises →
    Moves q q (awaited.Count counted.Premises) n Ls (number x) awaited.Node (with_node (in_rule x no_derivations) n) Ls
move_premises n Ls x none waiting some high =
    number_moves (in_rule x no_derivations) n Ls counted.Premises x none waiting (omega arith) high (omega (arith, some)) (omega arith)
    (ap (λ S. shape S false no_number) (push_some x (map missing n.waiting) some ∙ ap (λ k. k ∷ map missing n.waiting) (omega arith)))

pub move_no_premise : {q : ℕ} (n : PlainNodes) (Ls : PlainLevels) → n.whole ≡ None → AreWaiting n.waiting →
    Moves q q (awaited.Count counted.Premises) n Ls (number 0) awaited.Node (given n.waiting (rule no_derivations)) Ls
move_no_premise n Ls none waiting = record {
  leads = (ended_rule {w = []} n Ls none waiting).at;
  shape = ap (λ S. shape S false no_number) (given_shape n.waiting waiting (rule no_derivations));
  nest = refl;
  parens = refl;
  words = omega arith;
  few = λ h. h;
  shallow = omega arith;
  few_open = λ h. omega arith;
  types = omega arith;
}

-- ---- the words of a type
pub move_name : {q : ℕ} (n : PlainNodes) (Ls : PlainLevels) (w : Bytes) (i : ℕ) → is_name_like w ≡ true → is_word w ≡ false →
    Moves q q awaited.Part n Ls (word w) awaited.Colon n (with_inner Ls (with_field Ls.inner i))
move_name n Ls w i like other = record {
  leads = chosen_so (is_name_like w) _ _ like ∙ chosen_not (is_word w) _ _ other;
  shape = refl;
  nest = chosen_not (is_word w) _ _ other ∙ ap (λ N. within N (map deep_of Ls.outer)) (deep-field Ls.inner i);
  parens = refl;
  words = omega arith;
  few = λ h. h;
  shallow = omega arith;
  few_open = λ h. h;
  types = omega arith;
}

pub move_type : {q : ℕ} (n : PlainNodes) (Ls : PlainLevels) (w : Bytes) (x : TypeWord) → is_name_like w ≡ true → is_word w ≡ true →
    type_word w ≡ Some x →
    Moves q q awaited.Part n Ls (word w) awaited.Joint n (with_inner Ls (with_part Ls.inner (part_type x)))
move_type n Ls w x like one known = record {
  leads = chosen_so (is_name_like w) _ _ like ∙ (chosen_so (is_word w) _ _ one ∙ chosen_so (is_type_word w) _ _ (ap is_some known));
  shape = refl;
  nest = chosen_so (is_word w) _ _ one ∙ (ap (λ k. within (deep_part (deep_of Ls.inner) k) (map deep_of Ls.outer)) (sym (nesting_word x))
      ∙ ap (λ N. within N (map deep_of Ls.outer)) (deep-part Ls.inner (part_type x)));
  parens = refl;
  words = omega arith;
  few = λ h. h;
  shallow = omega arith;
  few_open = λ h. h;
  types = omega arith;
}

-- ---- signs
pub move_bracket : {q : ℕ} (n : PlainNodes) (Ls : PlainLevels) → Moves q q awaited.Bracket n Ls (sign open_bracket) awaited.Part n no_levels
move_bracket n Ls = record {
  leads = refl;
  shape = refl;
  nest = refl;
  parens = refl;
  words = omega arith;
  few = λ h. h;
  shallow = omega arith;
  few_open = λ h. omega arith;
  types = omega arith;
}

pub move_paren : {q : ℕ} (n : PlainNodes) (Ls : PlainLevels) → length Ls.outer < most_open_parens →
    Moves q q awaited.Part n Ls (sign open_paren) awaited.Part n (with_open Ls)
move_paren n Ls few = record {
  leads = refl;
  shape = refl;
  nest = refl;
  parens = omega arith;
  words = omega arith;
  few = λ h. h;
  shallow = omega arith;
  few_open = λ h. omega (arith, few);
  types = omega arith;
}

pub move_colon : {q : ℕ} (n : PlainNodes) (Ls : PlainLevels) → Moves q q awaited.Colon n Ls (sign colon) awaited.Part n Ls
move_colon n Ls = record {
  leads = refl;
  shape = refl;
  nest = refl;
  parens = refl;
  words = omega arith;
  few = λ h. h;
  shallow = omega arith;
  few_open = λ h. h;
  types = omega arith;
}

pub move_ampersand : {q : ℕ} (n : PlainNodes) (Ls : PlainLevels) → Moves q q awaited.Joint n Ls (sign ampersand) awaited.Part n Ls
move_ampersand n Ls = record {
  leads = refl;
  shape = refl;
  nest = refl;
  parens = refl;
  words = omega arith;
  few = λ h. h;
  shallow = omega arith;
  few_open = λ h. h;
  types = omega arith;
}

pub move_arrow : {q : ℕ} (n : PlainNodes) (Ls : PlainLevels) → 0 < length Ls.inner.members →
    Moves q q awaited.Joint n Ls (sign arrow) awaited.Part n (with_inner Ls (with_domain Ls.inner))
move_arrow n Ls some = record {
  leads = refl;
  shape = refl;
  nest = ap (λ N. within N (map deep_of Ls.outer)) (deep-domain Ls.inner some);
  parens = refl;
  words = omega arith;
  few = λ h. h;
  shallow = omega arith;
  few_open = λ h. h;
  types = omega arith;
}

close_leads : (n : PlainNodes) (outer : List PlainLevel) (M : PlainLevel) → 0 < length outer →
    after (reached_by awaited.Joint n (length outer)) (sign close_paren) ≡ Some (reached_by awaited.Joint n (length (closed_by outer M).outer))
close_leads n [] M opens = absurd (omega (arith, opens))
close_leads n (L ∷ outer) M opens = refl

close_parens : (outer : List PlainLevel) (M : PlainLevel) → 0 < length outer → length outer - 1 ≡ length (closed_by outer M).outer
close_parens [] M opens = absurd (omega (arith, opens))
close_parens (L ∷ outer) M opens = omega arith

pub move_close : {q : ℕ} (n : PlainNodes) (Ls : PlainLevels) → 0 < length Ls.outer → 0 < length Ls.inner.members →
    Moves q q awaited.Joint n Ls (sign close_paren) awaited.Joint n (with_closed Ls)
move_close n Ls opens some = record {
  leads = close_leads n Ls.outer Ls.inner opens;
  shape = refl;
  nest = deep-closed Ls.outer Ls.inner opens some;
  parens = close_parens Ls.outer Ls.inner opens;
  words = omega arith;
  few = λ h. h;
  shallow = omega arith;
  few_open = λ h. omega (arith, close_parens Ls.outer Ls.inner opens, h);
  types = omega arith;
}

pub move_end : {q : ℕ} {Ks : PlainLevels} (n : PlainNodes) (Ls : PlainLevels) (T : PlainType) → n.whole ≡ None → length Ls.outer ≡ 0 → TakesJoint Ls →
    Moves q q awaited.Joint n Ls (sign close_bracket) awaited.Node (with_node (in_sub T) n) Ks
move_end n Ls T none closed fit = record {
  leads = ap (after_bracket (extra n.waiting)) closed ∙ ap (λ k. Some (at k 0 awaited.Node)) (needed-open (in_sub T) n none refl);
  shape = refl;
  nest = refl;
  parens = closed;
  words = omega arith;
  few = λ h. h;
  shallow = omega arith;
  few_open = λ h. omega arith;
  types = omega (arith, many-nesting Ls.inner.members, fit.inner.arrows, fit.inner.members);
}
