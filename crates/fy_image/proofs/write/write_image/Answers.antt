use Rattle.std.proofs.Common.{◌<◌, ◌^◌, ◌++◌, List, ℕ, All, ap, ◌∙◌, subst}
use Rattle.std.specs.List.{flat_map}
use Rattle.fy_base.specs.declared.data.Place.{Place}
use Rattle.fy_image.specs.declared.version.Version.TheVariants.{Two}
use Rattle.fy_image.specs.Form.{word, double, place_bytes, PlaceFits, IsSpelled}
use Rattle.fy_image.proofs.Spelling.{written_is}
use Rattle.fy_image.proofs.write.write_image.Goals as goal

pub returns : goal.returns
returns c =
    let ws = c.as_slice.ensures in
    let ds = c.as_slice-2.ensures in
    let ps = c.as_slice-3.ensures in
    let spelled : IsSpelled Two c.args.image.now _ = record {
      fits = record {
        ranges = c.requires;
        code = let P : List ℕ → Type 0 = λ l. All (λ n. n < 2 ^ 32) l in subst P ws c.put_words.ensures.fit;
        table = let P : List ℕ → Type 0 = λ l. All (λ n. n < 2 ^ 64) l in subst P ds c.put_doubles.ensures.fit;
        places = let P : List Place → Type 0 = λ l. All PlaceFits l in subst P ps c.in_ok-put_places.ensures.fit;
      };
      few = c.requires.stack_most;
      spelled = written_is c.args.image.now _ _ _ _ _ _ _ _ _ _ _ _ _ _ (record {
        none = c.in_ok-bytes.ensures.items;
        magic_is = c.in_ok-extend_from_slice.ensures.items;
        version = c.in_ok-put_number.ensures;
        stack = c.in_ok-put_number-2.ensures;
        code_count = c.in_ok-put_number-3.ensures;
        table_count = c.in_ok-put_number-4.ensures;
        place_count = c.in_ok-put_number-5.ensures;
        zero_is = c.in_ok-put_number-6.ensures;
        code = c.in_ok-put_words.ensures.put ∙ ap (λ l. c.put_number-6.new.bytes.items ++ flat_map word l) ws;
        table = c.in_ok-put_doubles.ensures.put ∙ ap (λ l. c.put_words.new.bytes.items ++ flat_map double l) ds;
        places = c.in_ok-put_places.ensures.put ∙ ap (λ l. c.put_doubles.new.bytes.items ++ flat_map (place_bytes Two) l) ps;
        code_is = c.len-4.ensures;
        table_is = c.len-5.ensures;
        places_are = c.len-6.ensures;
      });
    } in
    record { image_bytes = record { version = Two; spelled = spelled }; version_2 = spelled }
