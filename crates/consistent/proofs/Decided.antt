-- A report is decided: the form was fine, every reachable chunk admitted, the reply bounded, and a run accepted.
use Prim.Native.Nat.{ℕ, ◌-◌}
use mathlib.Core.Path.{◌≡◌, refl, sym, ◌∙◌, ap₂}
use mathlib.Core.Bool.{Bool, true, false, cond}
use mathlib.Core.Option.{Option, none, some}
use mathlib.Core.List.{List}
use lib.Dec.{leb}
use Rattle.std.proofs.Common.{Result, Ok, Err}
use Rattle.answers.specs.Answers.{nowhere}
use Rattle.definition.specs.Machine.{Ran, accepted, refused, Final}
use Rattle.definition.specs.Module.{Module, module_of}
use Rattle.definition.specs.State.{State, Facts}
use Rattle.definition.specs.Leaves.{Known}
use Rattle.definition.specs.Form.{form_of}
use Rattle.definition.specs.Start.{admitted, first_facts, overfull, reply_maximum, known_of}
use Rattle.definition.specs.Report.{Report, report_of}
use Rattle.definition.specs.Call.{analysis_of, run_of, reported, turned, on_ran, admitted_run, on_reply, known, on_admitted, decided, on_form, decide}
use Rattle.machine_laws.proofs.Limits.{accepted-same}
use Rattle.masks.proofs.Both.{never}
use Rattle.machine_laws.proofs.Bind.{some_inj}
use Rattle.answers.specs.declared.Refusal.{Refusal}

-- what a run of the module was
pub record Made (m : Module) (cap limit : ℕ) (r : Report) (n : ℕ) : Type 0 where
  pub admits : admitted m m.chunks ≡ none
  pub reply : ℕ
  pub bound : reply_maximum (known_of m (first_facts m)).reply ≡ some reply
  pub room : overfull m ≡ false
  pub final : Final Facts State
  pub ran : run_of (known_of m (first_facts m)) cap limit (first_facts m) ≡ accepted final n
  pub says : report_of (known_of m (first_facts m)) reply final ≡ r

module _ (m : Module) (cap limit : ℕ) (r : Report) (n : ℕ) where
  abbrev K : Known
  K = known_of m (first_facts m)

  of-run : (a : Ran Facts State) → admitted m m.chunks ≡ none → (y : ℕ) → reply_maximum K.reply ≡ some y → overfull m ≡ false
      → run_of K cap limit (first_facts m) ≡ a → on_ran K y a ≡ reported r n → Made m cap limit r n
  unfolding on_ran
  of-run (refused z) e y b o a h = never (cc)
  of-run (accepted x k) e y b o a h =
      let ek : k ≡ n = cc in
      record { admits = e; reply = y; bound = b; room = o; final = x; ran = rw ek at a; says = cc }

  of-reply : (o : Option ℕ) → admitted m m.chunks ≡ none → reply_maximum K.reply ≡ o → on_reply K cap limit (first_facts m) o ≡ reported r n
      → Made m cap limit r n
  unfolding on_reply admitted_run known_of
  of-reply none e b h = never (cc)
  of-reply (some y) e b h = go (overfull m) refl h
    where
      go : (t : Bool) → overfull m ≡ t → cond t (turned (nowhere 12 0)) (on_ran K y (run_of K cap limit (first_facts m))) ≡ reported r n → Made m cap limit r n
      go true o h = never (cc)
      go false o h = of-run (run_of K cap limit (first_facts m)) e y b o refl h

  of-admitted : (o : Option (ℕ × ℕ)) → admitted m m.chunks ≡ o → on_admitted m cap limit o ≡ reported r n → Made m cap limit r n
  unfolding on_admitted known
  of-admitted (some z) e h = never (cc)
  of-admitted none e h = of-reply (reply_maximum K.reply) e refl h

  pub of-decided : decided m cap limit ≡ reported r n → Made m cap limit r n
  unfolding decided
  of-decided h = of-admitted (admitted m m.chunks) refl h

pub of-decide : (s : List ℕ) (words limit : ℕ) (r : Report) (n : ℕ) → decide s words limit ≡ reported r n
    → (w : ℕ) × (cap : ℕ) × (form_of s ≡ Ok w) × Made (module_of s) cap limit r n
unfolding decide on_form
of-decide s words limit r n h = go (form_of s) refl h
  where
    room : (w : ℕ) (b : Bool) → cond b (turned (nowhere 5 0)) (decided (module_of s) (words - w) limit) ≡ reported r n → Made (module_of s) (words - w) limit r n
    room w true h = never (cc)
    room w false h = of-decided (module_of s) (words - w) limit r n h

    go : (f : Result ℕ Refusal) → form_of s ≡ f → on_form s words limit f ≡ reported r n
        → (w : ℕ) × (cap : ℕ) × (form_of s ≡ Ok w) × Made (module_of s) cap limit r n
    go (Err z) e h = never (cc)
    go (Ok w) e h = (w, words - w, e, room w (leb words w) h)

-- ---- two runs of a module
same-made : (m : Module) (cap cap' limit limit' : ℕ) (r r' : Report) (n n' : ℕ) → Made m cap limit r n → Made m cap' limit' r' n' → (r ≡ r') × (n ≡ n')
unfolding run_of
same-made m cap cap' limit limit' r r' n n' w w' =
    let k = known_of m (first_facts m) in
    let (ex, en) = accepted-same (analysis_of k cap) cap' limit limit' (first_facts m) w.final w'.final n n' w.ran w'.ran in
    let ey : w.reply ≡ w'.reply = some_inj (sym w.bound ∙ w'.bound) in
    (sym w.says ∙ ap₂ (report_of k) ey ex ∙ w'.says, en)

-- THEOREM: room and steps change neither a report nor its count
pub same-report : (s : List ℕ) (words words' limit limit' : ℕ) (r r' : Report) (n n' : ℕ)
    → decide s words limit ≡ reported r n → decide s words' limit' ≡ reported r' n' → (r ≡ r') × (n ≡ n')
same-report s words words' limit limit' r r' n n' h h' =
    let (_, cap, _, w) = of-decide s words limit r n h in
    let (_, cap', _, w') = of-decide s words' limit' r' n' h' in
    same-made (module_of s) cap cap' limit limit' r r' n n' w w'
