-- What is told of the lines so far, and of those that are left.
use Rattle.std.proofs.Common.{◌≡◌, ℕ, ◌+◌, ◌<◌, suc, List, ◌∷◌, ◌++◌, length, drop, drop-cons, get_or, Option, Some, None, Result, Ok, Err, refl, sym, ◌∙◌, ap, append_assoc, add-one}
use Rattle.std.specs.Option.{option_map_or}
use Rattle.boot_model.specs.Vars.{Variables}
use Rattle.boot_model.specs.declared.boot_kind.BootKind.{BootKind}
use Rattle.boot_session.specs.Session.{line_step, put_before, told}
use Rattle.boot_session.specs.declared.step.Step.{Step}

put_before-twice : (page text : List ℕ) (rest : Result (List ℕ) ℕ) → put_before page (put_before text rest) ≡ put_before (page ++ text) rest
put_before-twice page text (Ok more) = ap Ok (sym (append_assoc page text more))
put_before-twice page text (Err why) = refl

module _ (kind : BootKind) (number : ℕ) (page line : List ℕ) (lines : List (List ℕ)) (vars : Variables) where
  -- where the next line does something, it is told before the rest
  pub told-step : (done : Step) → line_step kind vars line ≡ Some done → put_before page (told kind number (line ∷ lines) vars) ≡ put_before (page ++ done.text) (told kind (number + 1) lines done.vars)
  told-step done is =
      ap (λ (o : Option Step). put_before page (option_map_or (λ (d : Step). put_before d.text (told kind (number + 1) lines d.vars)) o (Err number))) is
      ∙ put_before-twice page done.text (told kind (number + 1) lines done.vars)

  -- else it is refused
  pub told-bad : line_step kind vars line ≡ None → put_before page (told kind number (line ∷ lines) vars) ≡ Err number
  told-bad is = ap (λ (o : Option Step). put_before page (option_map_or (λ (d : Step). put_before d.text (told kind (number + 1) lines d.vars)) o (Err number))) is

-- the line at a place is the first of those from there on
pub drop_line : (lines : List (List ℕ)) (at : ℕ) (line : List ℕ) → at < length lines → line ≡ get_or lines at line → drop at lines ≡ line ∷ drop (at + 1) lines
drop_line lines at line within is =
    drop-cons lines at line within
    ∙ ap (λ (l : List ℕ). l ∷ drop (suc at) lines) (sym is)
    ∙ ap (λ (n : ℕ). line ∷ drop n lines) (sym (add-one at))
