-- What the frame of a string says of it.
use Rattle.std.proofs.Common.{◌≡◌, refl, ap, ◌∙◌, Bool, true, false, cond, not, ◌||◌, true≢false, List, ℕ, ◌+◌, ◌<◌, arith, T, eqb, ltb, length, Ok, Err}
use Rattle.std.proofs.Common.{eqb-true}
use borrow.Author.Tests.{not-false}
use Rattle.numbers.specs.Lists.{element}
use Rattle.records.specs.declared.format.Record.{Record}
use Rattle.records.specs.declared.format.Record.TheVariants as records
use Rattle.records.specs.declared.format.Record.TheVariants.{Year, Area, Commitment, Hour, Load, Post, Owner, Day}
use Rattle.records.specs.declared.format.Fault.TheVariants.{Broken}
use Rattle.records.specs.Format.{Format, bytes_of, values_of, year_format, area_format, unit_format, commitment_format, hour_format, load_format, post_format, owner_format, day_format}
use Rattle.records.specs.Decoded.{tag_of, length_of, is_broken, of_length, of_tag, framed, decoded}
use Rattle.records.specs.Kinds.{Decoded, format_of, tag_of_record, numbers_of, area_from, unit_from, commitment_from, hour_from, load_from, owner_from, day_from, is_of}
use Rattle.records.proofs.OneKind.{made, listed_tag, is_made}

neither : (a b : Bool) → (a || b) ≡ false → (a ≡ false) × (b ≡ false)
neither true b q = absurd (true≢false q)
neither false b q = (refl, q)

-- a string that row 1 does not fit has the length that it states
pub whole : (s : List ℕ) → is_broken s ≡ false → length s ≡ 3 + length_of s
unfolding is_broken
whole s q =
    eqb-true (length s) (3 + length_of s)
    (not-false (eqb (length s) (3 + length_of s))
    (neither (ltb 32 (length_of s)) (not (eqb (length s) (3 + length_of s)))
    (neither (ltb (length s) 3) (ltb 32 (length_of s) || not (eqb (length s) (3 + length_of s))) q).1).1)

-- tag and length of a record are those of the string that it was decoded from
record FrameOf (s : List ℕ) (r : Decoded) : Type 0 where
  tag : tag_of s ≡ tag_of_record r
  size : length_of s ≡ (format_of r).size

module _ (s : List ℕ) where
  -- by the format that has the tag, or by the formats after it
  link : (f : Format) (make : List ℕ → Record) {other : Decoded} → format_of (Ok (make (values_of f s))) ≡ f
      → (0 < tag_of_record other → FrameOf s other) → 0 < tag_of_record (of_tag f s make other) → FrameOf s (of_tag f s make other)
  unfolding of_length
  link f make {other} same after = go (eqb (tag_of s) f.tag) refl (eqb (length_of s) f.size) refl
    where
      go : (t : Bool) → eqb (tag_of s) f.tag ≡ t → (l : Bool) → eqb (length_of s) f.size ≡ l
          → 0 < tag_of_record (of_tag f s make other) → FrameOf s (of_tag f s make other)
      go true q true p h = rw (q, p) (record { tag = eqb-true _ _ q ∙ rw same; size = eqb-true _ _ p ∙ rw same })
      go true q false p h = absurd (omega (arith, rw (q, p) at h))
      go false q l p h = rw q (after (rw q at h))

  framed_frame : 0 < tag_of_record (framed s) → FrameOf s (framed s)
  unfolding framed
  framed_frame =
      link year_format (λ l. Year (element l 0)) refl
      (link area_format (λ l. Area (area_from l)) refl
      (link unit_format (λ l. records.Unit (unit_from l)) refl
      (link commitment_format (λ l. Commitment (commitment_from l)) refl
      (link hour_format (λ l. Hour (hour_from l)) refl
      (link load_format (λ l. Load (load_from l)) refl
      (link post_format (λ l. Post (element l 0)) refl
      (link owner_format (λ l. Owner (owner_from l)) refl
      (link day_format (λ l. Day (day_from l)) refl (λ h. absurd (omega arith))))))))))

  -- of a string that is a record of one kind
  pub frame_of : (f : Format) → T (ltb 0 f.tag) → ((l : List ℕ) → format_of (made f.tag l) ≡ f) → is_of f (decoded s) ≡ true
      → (length s ≡ bytes_of f) × (tag_of s ≡ f.tag) × (length_of s ≡ f.size)
  unfolding decoded
  frame_of f listed kind e = go (is_broken s) refl e
    where
      go : (b : Bool) → is_broken s ≡ b → is_of f (cond b (Err Broken) (framed s)) ≡ true
          → (length s ≡ bytes_of f) × (tag_of s ≡ f.tag) × (length_of s ≡ f.size)
      go true q of = absurd (omega (arith, listed_tag f listed, eqb-true 0 f.tag of))
      go false q of =
          let tag : tag_of_record (framed s) ≡ f.tag = eqb-true _ _ of in
          let frame = framed_frame (rw tag (listed_tag f listed)) in
          let same : format_of (framed s) ≡ f = ap format_of (is_made f (framed s) listed of) ∙ kind (numbers_of (framed s)) in
          let size : length_of s ≡ f.size = frame.size ∙ ap (λ (g : Format). g.size) same in
          (whole s q ∙ rw size, frame.tag ∙ tag, size)
