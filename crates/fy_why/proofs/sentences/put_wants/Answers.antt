use Rattle.std.proofs.Common.{◌≡◌, [], ◌∷◌, ◌++◌, map, codes}
use Rattle.std.proofs.lemmas.Result.{on_ok_weaker}
use Rattle.fy_types.specs.Print.{atom_text}
use Rattle.fy_phrase.specs.Reads.{reads}
use Rattle.fy_show.specs.Reading.{known_in}
use Rattle.fy_causes.specs.Readings.{explained_read}
use Rattle.fy_why.specs.Sentences.{or_text, part_of, place_in, role, type_text}
use Rattle.fy_why.proofs.LineLemmas.{end-put, lines-put, more-put, two-put}
use Rattle.fy_why.proofs.sentences.put_wants.Goals as goal

pub returns : goal.returns
returns c =
    let T = c.args.text.now.items in
    let lead = c.args.lead.now in
    let line1 : c.put-5.new.text.items ≡ T ++ ((lead ++ (((((((codes "The ") ++ (role (reads c.args.e.now.at.phrase.now) c.args.index)) ++ (codes " at ")) ++ (place_in (part_of (explained_read c.args.e.now) c.args.index))) ++ (codes " has ")) ++ (type_text (known_in c.args.view.now) (explained_read c.args.e.now) c.args.index)) ++ (codes "."))) ++ 10 ∷ []) = end-put T lead ((((((codes "The ") ++ (role (reads c.args.e.now.at.phrase.now) c.args.index)) ++ (codes " at ")) ++ (place_in (part_of (explained_read c.args.e.now) c.args.index))) ++ (codes " has ")) ++ (type_text (known_in c.args.view.now) (explained_read c.args.e.now) c.args.index)) (codes ".") c.put_part_type.new.text.items c.put-5.new.text.items (more-put T lead (((((codes "The ") ++ (role (reads c.args.e.now.at.phrase.now) c.args.index)) ++ (codes " at ")) ++ (place_in (part_of (explained_read c.args.e.now) c.args.index))) ++ (codes " has ")) (type_text (known_in c.args.view.now) (explained_read c.args.e.now) c.args.index) c.put-4.new.text.items c.put_part_type.new.text.items (more-put T lead ((((codes "The ") ++ (role (reads c.args.e.now.at.phrase.now) c.args.index)) ++ (codes " at ")) ++ (place_in (part_of (explained_read c.args.e.now) c.args.index))) (codes " has ") c.put_part_place.new.text.items c.put-4.new.text.items (more-put T lead (((codes "The ") ++ (role (reads c.args.e.now.at.phrase.now) c.args.index)) ++ (codes " at ")) (place_in (part_of (explained_read c.args.e.now) c.args.index)) c.put-3.new.text.items c.put_part_place.new.text.items (more-put T lead ((codes "The ") ++ (role (reads c.args.e.now.at.phrase.now) c.args.index)) (codes " at ") c.put_role.new.text.items c.put-3.new.text.items (more-put T lead (codes "The ") (role (reads c.args.e.now.at.phrase.now) c.args.index) c.put-2.new.text.items c.put_role.new.text.items (two-put T lead (codes "The ") c.put.new.text.items c.put-2.new.text.items (c.in_ok-put.ensures) c.in_ok-put-2.ensures) c.in_ok-put_role.ensures) c.in_ok-put-3.ensures) c.in_ok-put_part_place.ensures) c.in_ok-put-4.ensures) c.in_ok-put_part_type.ensures) c.in_ok-put-5.ensures in
    on_ok_weaker c.put-8.result
    (λ e. lines-put T (lead ++ (((((((codes "The ") ++ (role (reads c.args.e.now.at.phrase.now) c.args.index)) ++ (codes " at ")) ++ (place_in (part_of (explained_read c.args.e.now) c.args.index))) ++ (codes " has ")) ++ (type_text (known_in c.args.view.now) (explained_read c.args.e.now) c.args.index)) ++ (codes "."))) ((lead ++ (((codes "It has to have ") ++ (or_text (map atom_text c.args.atoms.now))) ++ (codes "."))) ++ 10 ∷ []) c.put-5.new.text.items c.put-8.new.text.items line1 (end-put c.put-5.new.text.items lead ((codes "It has to have ") ++ (or_text (map atom_text c.args.atoms.now))) (codes ".") c.put_atoms.new.text.items c.put-8.new.text.items (more-put c.put-5.new.text.items lead (codes "It has to have ") (or_text (map atom_text c.args.atoms.now)) c.put-7.new.text.items c.put_atoms.new.text.items (two-put c.put-5.new.text.items lead (codes "It has to have ") c.put-6.new.text.items c.put-7.new.text.items (c.in_ok-put-6.ensures) c.in_ok-put-7.ensures) c.in_ok-put_atoms.ensures) e))
    c.put-8.ensures
