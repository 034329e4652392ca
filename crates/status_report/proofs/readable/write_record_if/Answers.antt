use Rattle.std.proofs.Common.{◌≡◌, ◌≤◌, ℕ, Bool, List, [], ◌++◌, ◌∙◌, arith, refl, ap, sym}
use Rattle.std.proofs.lemmas.List.{append-nil, get_or_past}
use Rattle.report_lines.specs.Lines.{line_if_any, text_if}
use Rattle.slot_status.specs.Records.{no_record, record_at}
use Rattle.status_report.specs.Texts.{image_lines, record_lines, time_lines}
use Rattle.status_report.proofs.readable.write_record_if.Goals as goal
use Rattle.status_report.proofs.readable.write_record_if.Goals.{else-detailed-via-then-detailed+else-at-len, else-detailed-via-else-detailed}

-- of nothing there are no lines
no_lines : record_lines no_record ≡ []
unfolding record_lines image_lines time_lines line_if_any
no_lines = refl

nothing_more : (out text : List ℕ) → text ≡ [] → out ≡ out ++ text
nothing_more out text none = sym (append-nil out) ∙ ap (λ x. out ++ x) (sym none)

pub returns-else-detailed : goal.returns-else-detailed
returns-else-detailed c =
    let known = record_lines (record_at c.args.book.now c.args.at) in
    elim c.else-detailed.branch [
      | else-detailed-via-then-detailed+else-at-len w ↦
          nothing_more _ _
          (ap (λ (b : Bool). text_if b known) w.if-detailed.true
          ∙ ap record_lines (get_or_past c.args.book.now c.args.at no_record (omega (arith, w.if-at-len.false, w.len.ensures))) ∙ no_lines)
      | else-detailed-via-else-detailed w ↦ nothing_more _ _ (ap (λ (b : Bool). text_if b known) w.if-detailed.false)
    ]
