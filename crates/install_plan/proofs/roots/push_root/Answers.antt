use Rattle.std.proofs.Common.{◌≡◌, ◌==◌, ◌&&◌, ℕ, List, [], ◌∷◌, ◌++◌, not, true, false, sym, ◌∙◌}
use Rattle.std.specs.List.{list_any}
use Rattle.std.proofs.lemmas.Bool.{and_from, and_left, and_right, cond-false, cond-true}
use Rattle.system_conf.specs.Configuration.{Configuration}
use Rattle.system_conf.specs.Reads.{system_configuration}
use Rattle.install_plan.specs.Acts.{has_bootname, with_root}
use Rattle.install_plan.proofs.roots.push_root.Goals as goal
use Rattle.install_plan.proofs.roots.push_root.Goals.{else-has_bootname-via-then-has_bootname+else-is_new, else-has_bootname-via-else-has_bootname}

comes : (c : Configuration) (roots : List ℕ) (root : ℕ) → has_bootname c root ≡ true → not (list_any (λ r. r == root) roots) ≡ true → roots ++ root ∷ [] ≡ with_root c roots root
comes c roots root named new =
    let there = list_any (λ r. r == root) roots in
    sym (cond-true (has_bootname c root && not there) (roots ++ root ∷ []) roots (and_from (has_bootname c root) (not there) named new))

stays : (c : Configuration) (roots : List ℕ) (root : ℕ) → (has_bootname c root && not (list_any (λ r. r == root) roots)) ≡ false → roots ≡ with_root c roots root
stays c roots root none =
    let there = list_any (λ r. r == root) roots in
    sym (cond-false (has_bootname c root && not there) (roots ++ root ∷ []) roots none)

pub returns-in_ok-push : goal.returns-in_ok-push
returns-in_ok-push c =
    c.in_ok-push.ensures.ok
    ∙ comes (system_configuration c.args.system.now) c.args.roots.now c.args.root
    (sym c.has_bootname.ensures ∙ c.if-has_bootname.true)
    (sym (rw c.as_slice.ensures at c.is_new.ensures) ∙ c.if-is_new.true)

pub returns-else-has_bootname : goal.returns-else-has_bootname
returns-else-has_bootname c =
    elim c.else-has_bootname.branch [
      | else-has_bootname-via-then-has_bootname+else-is_new w ↦ stays (system_configuration c.args.system.now) c.args.roots.now c.args.root (and_right _ _ (sym (rw w.as_slice.ensures at w.is_new.ensures) ∙ w.if-is_new.false))
      | else-has_bootname-via-else-has_bootname w ↦ stays (system_configuration c.args.system.now) c.args.roots.now c.args.root (and_left _ _ (sym c.has_bootname.ensures ∙ w.if-has_bootname.false))
    ]
