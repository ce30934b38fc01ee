-- How the work for a task stands to the task, from how its parts do.
use Rattle.std.proofs.Common.{◌≡◌, ℤ, List, Some, length, Contains, sym, ap, subst}
use Rattle.pssm_semantics.specs.declared.entry.ObjectId.{ObjectId}
use Rattle.pssm_semantics.specs.declared.stimulus.Task.{Task}
use Rattle.pssm_semantics.specs.Work.{Work}
use Rattle.pssm_system.specs.History.{History}
use Rattle.pssm_system.specs.Tasks.{IsReadyOf}
use Rattle.pssm_book.specs.declared.comparing.Compared.{Compared}
use Rattle.pssm_book.specs.declared.comparing.Compared.TheVariants.{Apart, Differing, Same}
use Rattle.pssm_book.specs.Works.{behaviour_in, store_in, params_in}
use Rattle.pssm_book.specs.Committing.{IsItsWork}
use Rattle.pssm_book.specs.inner.Comparing.{ComparesStores, Compares}

module _ (run : History) (claims : List (ObjectId × Task)) (task : Task) (work : Work) where
  -- what is asked of the object of the work
  pub ready_of : (o : ObjectId) → o ≡ work.own → IsReadyOf run.setting run.journal o task → IsReadyOf run.setting run.journal work.own task
  ready_of o own ready = subst (λ (q : ObjectId). IsReadyOf run.setting run.journal q task) own ready

  -- what is ready, and has run its behaviour on its parameters, is as its values are
  pub compared : Contains claims (work.own, task) → IsReadyOf run.setting run.journal work.own task → behaviour_in run.setting work.own task ≡ Some work.act
      → work.params ≡ params_in run.journal work.own task → (kept : List ℤ) → kept ≡ store_in run.setting run.journal work.own → (r : Compared) → ComparesStores kept work.store r → Compares run claims task work r
  compared claimed ready act params kept is r h = by r (subst (λ (xs : List ℤ). ComparesStores xs work.store r) is h) where
    its : length work.store ≡ length (store_in run.setting run.journal work.own) → IsItsWork run claims task work
    its size = record { claimed = claimed; ready = ready; act = act; params = params; size = size }

    by : (a : Compared) → ComparesStores (store_in run.setting run.journal work.own) work.store a → Compares run claims task work a
    by Apart g = λ w. g (sym w.size)
    by (Differing place here there) g = record { work_is = its (sym g.0); differ = g.1 }
    by Same g = record { work_is = its (ap (λ (xs : List ℤ). length xs) (sym g)); store = sym g }
