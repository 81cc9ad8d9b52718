-- A scope by its form.
use Rattle.std.proofs.Common.{◌≡◌, ◌∷◌, Bor, rules}
use Rattle.fy_show.specs.declared.entries.EntryText.{EntryText}
use Rattle.fy_show.specs.declared.entries.ScopeTexts.{ScopeTexts, the_lemmas}
use Rattle.fy_show.specs.declared.entries.ScopeTexts.TheViews as view
use Rattle.fy_show.specs.Entries.{unnamed}
use Rattle.fy_show.specs.Reading.{entry_read, scope_read}

pub scope-unnamed : (outer : Bor ScopeTexts) → scope_read (view.Unnamed outer) ≡ unnamed ∷ scope_read outer.now
scope-unnamed outer = search (rules, the_lemmas)

pub scope-inside : (entry : Bor EntryText) (outer : Bor ScopeTexts) → scope_read (view.Inside entry outer) ≡ entry_read entry.now ∷ scope_read outer.now
scope-inside entry outer = search (rules, the_lemmas)

pub ruleset scopes = (scope-unnamed, scope-inside)
