-- Lists of parts.
use Rattle.std.proofs.Common.{◌≡◌, ℕ, ◌<◌, suc, List, [], ◌∷◌, length, map, refl, sym, ap, ◌∙◌, arith}
use Rattle.fy_base.specs.Outside.{Bytes}
use Rattle.fy_base.specs.declared.data.Place.{Place}
use Rattle.fy_base.specs.declared.data.Datum.TheVariants as datum
use Rattle.fy_syntax.specs.declared.surface.Surface.{Surface}
use Rattle.fy_syntax.specs.Reading as written
use Rattle.fy_syntax.specs.Trees as plain
use Rattle.fy_phrase.specs.Tree.{lit, and_tree}
use Rattle.fy_phrase.specs.Reads.{phrases_in, reads, reads_parts, trees_from}
use Rattle.fy_phrase.specs.declared.phrase.Phrase.{Phrase}
use Rattle.fy_phrase.specs.declared.phrase.Parts.{Parts}
use Rattle.fy_phrase.proofs.ReadLemmas.{reads_parts-at}
use Rattle.fy_expand.specs.Scope.{Scope, behind}
use Rattle.fy_expand.specs.Core.{core, letters, text_parts, parts_of, trees_count, indexed}

letters-from : (at : Place) (bytes : Bytes) → trees_from (map (λ b. lit (datum.Char b) at) bytes) ≡ letters at bytes
letters-from at [] = refl
letters-from at (byte ∷ bytes) = ap (and_tree (lit (datum.Char byte) at)) (letters-from at bytes)

text-from : (at : Place) (bytes : Bytes) → 0 < length bytes → trees_from (map (λ b. lit (datum.Char b) at) bytes) ≡ text_parts at bytes
text-from at [] h = absurd (omega arith)
text-from at (byte ∷ bytes) h = letters-from at (byte ∷ bytes)

-- the parts of a string that isn't empty
pub reads-text : (made : Parts) (at : Place) (bytes : Bytes) → map reads (phrases_in made) ≡ map (λ b. lit (datum.Char b) at) bytes → 0 < length bytes → reads_parts made ≡ text_parts at bytes
reads-text made at bytes h k = reads_parts-at made ∙ ap trees_from h ∙ text-from at bytes k

parts_of-from : (s : Scope) (ps : List Surface) → trees_from (map (λ p. core s (written.tree_of p)) ps) ≡ parts_of s (written.trees_from (map written.tree_of ps))
parts_of-from s [] = refl
parts_of-from s (p ∷ ps) = ap (and_tree (core s (written.tree_of p))) (parts_of-from s ps)

-- the parts of a `seq`
pub reads-parts : (made : Parts) (s : Scope) (ps : List Surface) → map reads (phrases_in made) ≡ map (λ p. core s (written.tree_of p)) ps → reads_parts made ≡ parts_of s (written.trees_from (map written.tree_of ps))
reads-parts made s ps h = reads_parts-at made ∙ ap trees_from h ∙ parts_of-from s ps

trees_count-from : (ps : List Phrase) → trees_count (trees_from (map reads ps)) ≡ length ps
trees_count-from [] = refl
trees_count-from (p ∷ ps) = ap suc (trees_count-from ps)

trees_count-parts : (made : Parts) → trees_count (reads_parts made) ≡ length (phrases_in made)
trees_count-parts made = ap trees_count (reads_parts-at made) ∙ trees_count-from (phrases_in made)

-- the whole of a `seq`
pub seq-built : (s : Scope) (at : Place) (d n : ℕ) (made : Parts) (parts : plain.Trees) → d ≡ s.depth → n ≡ length (phrases_in made) → reads_parts made ≡ parts_of (behind s) parts →
    indexed d at n (reads_parts made) ≡ core s (plain.Tree.seq_of parts at)
seq-built s at d n made parts h k l =
    ap (λ e. indexed e at n (reads_parts made)) h
    ∙ ap (λ m. indexed s.depth at m (reads_parts made)) (k ∙ sym (trees_count-parts made))
    ∙ ap (λ ps. indexed s.depth at (trees_count ps) ps) l

pub ruleset parts = (reads-text, reads-parts, reads_parts-at)
