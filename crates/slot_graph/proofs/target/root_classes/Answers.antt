use Rattle.std.proofs.Common.{◌∙◌, ◌++◌, [], ◌∷◌, ap, ap₂, map, not, sym, Bor, List}
use Rattle.std.proofs.lemmas.List.{map-append, take_all}
use Rattle.std.specs.Global.{Global}
use Rattle.std.specs.List.{list_any}
use Rattle.std.specs.Prelude.{Vec}
use Rattle.std.specs.Str.{bytes_eq}
use Rattle.keyfile.specs.Groups.{Text}
use Rattle.slot_graph.specs.Targets.{root_classes}
use Rattle.slot_graph.proofs.Classes.{class_known, class_new, class_of_child, classes_in}
use Rattle.slot_graph.proofs.target.root_classes.Goals as goal
use Rattle.slot_graph.proofs.target.root_classes.Goals.{then-is_none+then-not-is_among+in_ok-push, else-is_none, else-is_none-via-then-is_none+else-not-is_among, else-is_none-via-else-is_none}

abbrev texts : List (Bor Text) → List Text
texts classes = map (λ class. class.now) classes

pub loop-slot-preserved : goal.loop-slot-preserved
loop-slot-preserved c =
    let slot = c.slot-item.result in
    let known = texts c.loop-slot.classes.items in
    elim c.if-is_none.branch [
      | then-is_none+then-not-is_among+in_ok-push w ↦
          let told = w.is_among.ensures ∙ ap₂ (λ (class : Text) (classes : List (Bor Text)). list_any (bytes_eq class) (texts classes)) c.as_str-class.ensures w.deref.ensures.value in
          ap (λ (classes : Vec (Bor Text) Global). texts classes.items) w.classes-is
          ∙ ap texts w.in_ok-push.ensures.items
          ∙ map-append (λ (class : Bor Text). class.now) c.loop-slot.classes.items (c.as_str-class.result ∷ [])
          ∙ ap (λ (class : Text). known ++ class ∷ []) c.as_str-class.ensures
          ∙ class_new c.args.slots.now c.loop-slot.slot-index slot known c.loop-slot.invariant c.loop-slot-test.true c.slot-item.is (ap not (c.is_none.ensures ∙ ap not w.if-is_none.true)) (sym told ∙ w.if-not-is_among.true)
      | else-is_none w ↦ elim w.else-is_none.branch [
        | else-is_none-via-then-is_none+else-not-is_among w' ↦
            let told = w'.is_among.ensures ∙ ap₂ (λ (class : Text) (classes : List (Bor Text)). list_any (bytes_eq class) (texts classes)) c.as_str-class.ensures w'.deref.ensures.value in
            ap (λ (classes : Vec (Bor Text) Global). texts classes.items) w.classes-is
            ∙ class_known c.args.slots.now c.loop-slot.slot-index slot known c.loop-slot.invariant c.loop-slot-test.true c.slot-item.is (ap not (c.is_none.ensures ∙ ap not w'.if-is_none.true)) (sym told ∙ w'.if-not-is_among.false)
        | else-is_none-via-else-is_none w' ↦
            ap (λ (classes : Vec (Bor Text) Global). texts classes.items) w.classes-is
            ∙ class_of_child c.args.slots.now c.loop-slot.slot-index slot known c.loop-slot.invariant c.loop-slot-test.true c.slot-item.is (ap not (c.is_none.ensures ∙ ap not w'.if-is_none.false))
      ]
    ]

pub returns : goal.returns
unfolding root_classes
returns c = c.loop-slot.invariant ∙ ap classes_in (take_all c.loop-slot.slot-index c.args.slots.now c.loop-slot-test.false)
