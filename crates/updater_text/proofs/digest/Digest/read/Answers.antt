use Rattle.std.proofs.Common.{refl}
use Rattle.hex.proofs.HexLemmas.{IsOk-decode_sized}
use Rattle.updater_text.proofs.digest.Digest.read.Goals as goal

pub returns-in-Ok-clause-found : goal.returns-in-Ok-clause-found
returns-in-Ok-clause-found c =
    let digits = IsOk-decode_sized c.args.text.now 32 in
    let sized = c.in-Ok.ensures in
    (λ h. digits.0 (rw (← sized) refl), λ h. refl)

pub returns-in-Err-clause-found : goal.returns-in-Err-clause-found
returns-in-Err-clause-found c =
    let digits = IsOk-decode_sized c.args.text.now 32 in
    let sized = c.in-Err.ensures in
    (λ h. cc, λ h. rw (← sized) at (digits.1 h))
