use Rattle.std.proofs.Common.{◌≡◌, ◌++◌, ◌+◌, List, ℕ, take, subst, sym, ap, ◌∙◌}
use Rattle.std.specs.Prelude.{map}
use Rattle.pssm_wellformed.specs.declared.fault.Fault.{Fault}
use Rattle.pssm_load.specs.declared.fault.ClassFault.{ClassFault}
use Rattle.pssm_load.specs.Loads.{in_class, AreClassFaults}
use Rattle.pssm_load.proofs.LoadFaults.{faults_more}
use Rattle.pssm_load.proofs.rules.class_faults.Goals as goal

-- The faults of one class more.
pub loop-class-preserved : goal.loop-class-preserved
loop-class-preserved c =
    let more = faults_more c.args.classes.now c.loop-class.class-index c.class-item.result c.loop-class.list.items c.in_ok-faults.faults.items c.loop-class-test.true c.class-item.is c.loop-class.invariant
    (record { exact = c.in_ok-faults.ensures.exact; ascending = c.in_ok-faults.ensures.ascending }) in
    let listed : c.put_faults.new.list.items ≡ c.loop-class.list.items ++ map (in_class c.class-item.result.name) c.in_ok-faults.faults.items =
    c.in_ok-put_faults.ensures {u = tt}
    ∙ ap (λ (name : List ℕ). c.loop-class.list.items ++ map (in_class name) c.as_slice-in-loop-class.result.now) c.as_slice.ensures
    ∙ ap (λ (faults : List Fault). c.loop-class.list.items ++ map (in_class c.class-item.result.name) faults) c.as_slice-in-loop-class.ensures.value in
    subst (λ (list : List ClassFault). AreClassFaults (take (c.loop-class.class-index + 1) c.args.classes.now) list) (sym listed) more
