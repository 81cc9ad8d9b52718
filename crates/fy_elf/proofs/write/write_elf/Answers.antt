use Rattle.std.proofs.Common.{◌<◌, ◌^◌, ◌++◌, List, ℕ, All, refl, ap, ◌∙◌, subst}
use Rattle.std.specs.List.{flat_map}
use Rattle.fy_base.specs.declared.data.Place.{Place}
use Rattle.fy_image.specs.declared.version.Version.TheVariants.{One}
use Rattle.fy_image.specs.Form.{word, double, place_bytes, PlaceFits}
use Rattle.fy_elf.specs.Elf.{IsElfBytes, numbers_bytes}
use Rattle.fy_elf.proofs.Contents.{sizes_are}
use Rattle.fy_elf.proofs.Loading.{image_loads}
use Rattle.fy_elf.proofs.Unique.{written_is}
use Rattle.fy_elf.proofs.write.write_elf.Goals as goal

pub returns : goal.returns
returns c =
    let ws = c.as_slice.ensures in
    let ds = c.as_slice-2.ensures in
    let ps = c.as_slice-3.ensures in
    let elf : IsElfBytes c.args.image.now c.put_places.new.bytes.items = record {
      fits = record {
        ranges = c.requires;
        code = let P : List ℕ → Type 0 = λ l. All (λ n. n < 2 ^ 32) l in subst P ws c.put_words.ensures.fit;
        table = let P : List ℕ → Type 0 = λ l. All (λ n. n < 2 ^ 64) l in subst P ds c.put_doubles.ensures.fit;
        places = let P : List Place → Type 0 = λ l. All PlaceFits l in subst P ps c.in_ok-put_places.ensures.fit;
      };
      spelled = written_is c.args.image.now _ _ _ _ _ _ _ _ (record {
        none = c.in_ok-bytes.ensures.items;
        head = c.in_ok-put_headers.ensures;
        code = c.in_ok-put_words.ensures.put ∙ ap (λ l. c.put_headers.new.bytes.items ++ flat_map word l) ws;
        pad = c.in_ok-extend_from_slice.ensures.items ∙ ap (λ b. c.put_words.new.bytes.items ++ b) c.padding.ensures;
        table = c.in_ok-put_doubles.ensures.put ∙ ap (λ l. c.extend_from_slice.new.self.items ++ flat_map double l) ds;
        note = c.in_ok-put_numbers.ensures ∙ ap (λ ns. c.put_doubles.new.bytes.items ++ numbers_bytes ns) c.note_header.ensures;
        places = c.in_ok-put_places.ensures.put ∙ ap (λ l. c.put_numbers.new.bytes.items ++ flat_map (place_bytes One) l) ps;
        sizes = sizes_are _ c.args.image.now c.len.ensures c.len-2.ensures refl c.len-3.ensures;
      });
    } in
    record { elf = elf; loads = image_loads c.args.image.now c.put_places.new.bytes.items elf }
