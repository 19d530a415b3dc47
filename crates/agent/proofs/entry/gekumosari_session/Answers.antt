-- `gekumosari_session`: a length is at most that of the lent slice, and so an i64 holds it (`entry_length`); a refusal is by 12 (`entry-refused`).
use Rattle.std.proofs.Common.{◌≡◌, ◌<◌, ◌^◌, ℕ, arith, pos, ◌-ℤ◌, w64, to_z, of_z}
use Rattle.std.proofs.Math.Path.{refl}
use Rattle.std.proofs.Math.IntN.{neg_ℤ}
use mathlib.Core.Path.{◌∙◌}
use mir.Facts.{to_z_pos}
use Rattle.lines.specs.declared.Refusal.TheVariants.{NoRoom}
use Rattle.lines.specs.Refusals.{number}
use Rattle.agent.specs.EntryLaws.{entry_length, entry-refused}
use Rattle.agent.proofs.entry.gekumosari_session.Goals as goal

pub overflow_cast-result : goal.overflow_cast-result
overflow_cast-result c =
    let told = entry_length _ c.args.out.now c.in-Ok.ensures.value _ refl in record { sfits = omega (arith, told.room) }

pub returns-in-Ok-clause-value : goal.returns-in-Ok-clause-value
returns-in-Ok-clause-value c =
    let told = entry_length _ c.args.out.now c.in-Ok.ensures.value _ refl in
    let fits : c.in-Ok.length < 2 ^ 63 = omega (arith, told.room) in
    to_z_pos w64 fits ∙ told.answer

less : {n : ℕ} → n ≡ number NoRoom → to_z w64 (of_z w64 (pos 0 -ℤ to_z w64 n)) ≡ neg_ℤ (pos n)
less e = rw e refl

pub returns-in-Err-clause-value : goal.returns-in-Err-clause-value
returns-in-Err-clause-value c =
    let told = entry-refused _ _ c.in-Err.ensures.value _ _ refl c.number.ensures in less told.is ∙ told.answer
