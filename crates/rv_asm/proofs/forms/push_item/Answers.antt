use Rattle.std.proofs.Common.{sym, subst, lit<}
use Rattle.rv_asm.specs.Items.{IsFit}
use Rattle.rv_asm.proofs.Encodable.{AreEncodable, far_jump_encodable, address_encodable}
use Rattle.rv_asm.proofs.forms.push_item.Goals as goal

pub push_words-requires-in-FarTo : goal.push_words-requires-in-FarTo
push_words-requires-in-FarTo c = subst AreEncodable (sym c.far_jump.ensures) (far_jump_encodable 0 c.args.here c.args.to (lit< tt))

pub push_words-requires-in-AddressOf : goal.push_words-requires-in-AddressOf
push_words-requires-in-AddressOf c = subst AreEncodable (sym c.address.ensures) (address_encodable c.in-AddressOf.rd c.args.here c.args.to (subst IsFit c.in-AddressOf.is c.requires.fit))
