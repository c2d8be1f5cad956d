use Rattle.std.proofs.Common.{◌≡◌, refl, ap, ◌∙◌, [], Ok, false, ◌<◌, length}
use Rattle.std.proofs.lemmas.List.{get_or_default}
use Rattle.numbers.specs.Lists.{list_below}
use Rattle.records.specs.declared.format.Record.{Record}
use Rattle.records.specs.Format.{post_format}
use Rattle.records.specs.Kinds.{is_of}
use Rattle.rules.specs.Rules.{area_named}
use Rattle.book.specs.Books.{Book, Sound, no_obligations}
use Rattle.book.specs.Entered.{after}
use Rattle.book.specs.Steps.{post_answer}
use Rattle.book.specs.Seen.{seen}
use Rattle.book.proofs.Answers.{faulty, returned, accepted, sound_after, posted}
use Rattle.book.proofs.Book.enter.Goals as goal
use Rattle.book.proofs.Book.enter.Goals.{In_ok-admit, in-Year, in-Area, in-Unit, in-Commitment, in-Hour, in-Load, in-Owner, in-Day}

pub returns-in_err-r : goal.returns-in_err-r
returns-in_err-r c = faulty c.args.self.now c.args.bytes.now _ c.from_residual.result c.in_err-r.ensures c.from_residual.ensures.1

pub returns-in_err-admit : goal.returns-in_err-admit
returns-in_err-admit c =
    rw (← c.self.view_is)
    (returned (seen c.self.inside) c.args.bytes.now c.in_ok-r.ensures c.area_named-i.ensures.0 c.unit_named-j.ensures.0 c.new-asked.ensures _
    c.from_residual-in_err-admit.result c.in_err-admit.ensures c.from_residual-in_err-admit.ensures.1)

pub returns-in-Post : goal.returns-in-Post
returns-in-Post c =
    let area = c.area_named-i.ensures.0 in
    let post = c.in-Post.is in
    let given = rw (← c.self.view_is) at (c.post.ensures ∙ ap (post_answer c.args.self.now) (area ∙ ap (λ (r : Record). area_named (Ok r)) post)) in
    rw (← c.self.view_is)
    (posted (seen c.self.inside) c.args.bytes.now c.in_ok-r.ensures area c.unit_named-j.ensures.0 c.new-asked.ensures post c.in_ok-admit.ensures given)

pub returns : goal.returns
unfolding list_below
returns c =
    let b = seen c.self.inside in
    let r = c.in_ok-r.r in
    let area = c.area_named-i.ensures.0 in
    let unit = c.unit_named-j.ensures.0 in
    let inside : c.area_named-i.result < length b.obligations = rw c.self.invariant.obligations.long c.area_named-i.ensures.1 in
    let stored : (is_of post_format (Ok r) ≡ false) × (c.match-r.self ≡ after b (Ok r)) =
    elim c.match-r.branch [
      | in-Year w ↦ (rw w.in-Year.is refl, rw w.in-Year.is w.self-is)
      | in-Area w ↦ (rw w.in-Area.is refl, w.self-is ∙ rw (area, w.in-Area.is))
      | in-Unit w ↦ (rw w.in-Unit.is refl, w.self-is ∙ rw (w.new.ensures, unit, w.in-Unit.is))
      | in-Commitment w ↦ (rw w.in-Commitment.is refl, w.self-is ∙ rw (w.index-k.ensures.value, w.in-Commitment.is))
      | in-Hour w ↦ (rw w.in-Hour.is refl, w.self-is ∙ rw (w.with_hour.ensures, unit, w.in-Hour.is))
      | in-Load w ↦ (
        rw w.in-Load.is refl,
        w.self-is ∙ rw (get_or_default b.obligations c.area_named-i.result [] no_obligations inside, area, w.index-p.ensures.value, w.in-Load.is),
      )
      | in-Owner w ↦ (rw w.in-Owner.is refl, w.self-is ∙ rw (w.with_owner.ensures, unit, w.in-Owner.is))
      | in-Day w ↦ (rw w.in-Day.is refl, w.self-is ∙ rw (w.with_day.ensures, unit, w.in-Day.is))
    ] in
    let e = accepted b c.args.bytes.now c.in_ok-r.ensures area unit c.new-asked.ensures c.in_ok-admit.ensures stored.0 stored.1 in
    rw (← c.self.view_is, c.zero.ensures) e

-- what each arm stores is in range
stored_sound : (c : In_ok-admit) {b' : Book} → is_of post_format (Ok c.in_ok-r.r) ≡ false → b' ≡ after (seen c.self.inside) (Ok c.in_ok-r.r) → Sound b'
stored_sound c =
    sound_after (seen c.self.inside) c.args.bytes.now c.in_ok-r.ensures c.area_named-i.ensures.0 c.unit_named-j.ensures.0 c.new-asked.ensures c.self.invariant
    c.in_ok-admit.ensures

pub invariant_of-self : goal.invariant_of-self
invariant_of-self c = stored_sound (goal.at.invariant_of-self c).In_ok-admit (rw c.in-Year.is refl) (rw c.in-Year.is refl)

pub invariant_of-self-in-Area : goal.invariant_of-self-in-Area
invariant_of-self-in-Area c = stored_sound (goal.at.invariant_of-self-in-Area c).In_ok-admit (rw c.in-Area.is refl) (rw (c.area_named-i.ensures.0, c.in-Area.is))

pub invariant_of-self-in-Unit : goal.invariant_of-self-in-Unit
invariant_of-self-in-Unit c = stored_sound (goal.at.invariant_of-self-in-Unit c).In_ok-admit (rw c.in-Unit.is refl) (rw (c.new.ensures, c.unit_named-j.ensures.0, c.in-Unit.is))

pub invariant_of-self-in-Commitment : goal.invariant_of-self-in-Commitment
invariant_of-self-in-Commitment c = stored_sound (goal.at.invariant_of-self-in-Commitment c).In_ok-admit (rw c.in-Commitment.is refl) (rw (c.index-k.ensures.value, c.in-Commitment.is))

pub invariant_of-self-in-Hour : goal.invariant_of-self-in-Hour
invariant_of-self-in-Hour c = stored_sound (goal.at.invariant_of-self-in-Hour c).In_ok-admit (rw c.in-Hour.is refl) (rw (c.with_hour.ensures, c.unit_named-j.ensures.0, c.in-Hour.is))

pub invariant_of-self-in-Load : goal.invariant_of-self-in-Load
invariant_of-self-in-Load c =
    let inside : c.area_named-i.result < length c.self.inside.obligations = rw c.self.invariant.obligations.long c.area_named-i.ensures.1 in
    stored_sound (goal.at.invariant_of-self-in-Load c).In_ok-admit (rw c.in-Load.is refl)
    (rw (get_or_default c.self.inside.obligations c.area_named-i.result [] no_obligations inside, c.area_named-i.ensures.0, c.index-p.ensures.value, c.in-Load.is))

pub invariant_of-self-in-Owner : goal.invariant_of-self-in-Owner
invariant_of-self-in-Owner c = stored_sound (goal.at.invariant_of-self-in-Owner c).In_ok-admit (rw c.in-Owner.is refl) (rw (c.with_owner.ensures, c.unit_named-j.ensures.0, c.in-Owner.is))

pub invariant_of-self-in-Day : goal.invariant_of-self-in-Day
invariant_of-self-in-Day c = stored_sound (goal.at.invariant_of-self-in-Day c).In_ok-admit (rw c.in-Day.is refl) (rw (c.with_day.ensures, c.unit_named-j.ensures.0, c.in-Day.is))
