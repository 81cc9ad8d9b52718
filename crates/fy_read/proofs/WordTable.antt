-- The words of nodes in their table.
use Rattle.std.proofs.Common.{◌≡◌, codes, refl}
use Rattle.std.specs.Prelude.{Some}
use Rattle.fy_read.specs.declared.words.NodeWord.TheVariants as node
use Rattle.fy_read.specs.Steps.{node_word, node_words}

pub words_known : (node_word (codes "ns") ≡ Some node.Ns) × (node_word (codes "sub") ≡ Some node.Sub) ×
    (node_word (codes "meet") ≡ Some node.Meet) × (node_word (codes "alt") ≡ Some node.Alt)
    × (node_word (codes "left") ≡ Some node.Left) × (node_word (codes "right") ≡ Some node.Right) × (node_word (codes "rule") ≡ Some node.Rule)
unfolding node_words
words_known = (refl, refl, refl, refl, refl, refl, refl)
