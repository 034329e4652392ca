use Rattle.std.proofs.Common.{◌≡◌, ◌+◌, drop, length}
use Rattle.std.specs.FinMap.{empty}
use Rattle.std.specs.Str.Lines.{lines}
use Rattle.boot_session.specs.Session.{put_before, told}
use Rattle.boot_session.proofs.session.tell.Given as goal

-- what is told and what is left make the whole
abbrev pub invariant-loop-line : goal.invariant-loop-line
invariant-loop-line l = record {
  counted : l.number ≡ length l.yielded + 1;
  left : put_before l.page.items (told l.kind (l.number + 1) (drop (length l.yielded) (lines l.text)) l.vars) ≡ told l.kind 2 (lines l.text) empty;
}
