-- the task is ready and the work has its form, or it is apart; then it is as its values are
use Rattle.std.proofs.Common.{◌≡◌, ◌<◌, ℤ, ℕ, List, length, sym, ap, subst, ◌∙◌, arith}
use Rattle.pssm_semantics.specs.declared.entry.ObjectId.{ObjectId}
use Rattle.pssm_semantics.specs.Pool.{told_by}
use Rattle.pssm_book.specs.Works.{store_in}
use Rattle.pssm_book.specs.inner.Comparing.{ComparesStores}
use Rattle.pssm_book.proofs.StoreLengths.{few_values}
use Rattle.pssm_book.proofs.TaskLaws.{store_is}
use Rattle.pssm_book.proofs.CompareLaws.{ready_of, compared}
use Rattle.pssm_book.proofs.desk.Desk.compare.Goals as goal

pub compare_stores-requires : goal.compare_stores-requires
compare_stores-requires c =
    let ready = c.is_ready.ensures.0 c.if-not-is_ready.false in
    let few = few_values c.requires.order.well_formed c.own-object.result ready.class ready.class_is (told_by c.args.self.now.system.journal) c.args.self.now.system.journal in
    let is = ap (λ (xs : List ℤ). length xs) (c.store.ensures ready.class ready.class_is) in
    omega (arith, few, is)

-- the object of a ready task is the setting's, whichever way it is named
pub has_params-requires : goal.has_params-requires
has_params-requires c =
    ready_of c.args.self.now.system c.args.self.now.claims.items c.args.task c.args.worked.now c.own-object.result c.own-object.ensures (c.is_ready.ensures.0 c.if-not-is_ready.false)

pub returns : goal.returns
returns c =
    let ready = c.is_ready.ensures.0 c.if-not-is_ready.false in
    let here : c.store.result.now ≡ store_in c.args.self.now.system.setting c.args.self.now.system.journal c.own-object.result =
    c.store.ensures ready.class ready.class_is ∙ sym (store_is c.requires.order.well_formed c.requires.order.admissible c.own-object.result ready.class_is) in
    compared c.args.self.now.system c.args.self.now.claims.items c.args.task c.args.worked.now c.requires.claimed
    (ready_of c.args.self.now.system c.args.self.now.claims.items c.args.task c.args.worked.now c.own-object.result c.own-object.ensures ready)
    c.requires.known (c.has_params.ensures.0 c.if-not-has_params.false) c.store.result.now
    (here ∙ ap (λ (q : ObjectId). store_in c.args.self.now.system.setting c.args.self.now.system.journal q) c.own-object.ensures) c.compare_stores.result
    (subst (λ (xs : List ℤ). ComparesStores c.store.result.now xs c.compare_stores.result) c.store-2.ensures c.compare_stores.ensures)
