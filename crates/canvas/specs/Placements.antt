-- Where a row of a plan stands on the page.
-- Assumes nothing.
use Rattle.plan.specs.declared.layout.Layout.{Layout}
use Rattle.plan.specs.declared.layout.Object.{Object}
use Rattle.plan.specs.declared.layout.Objects.{Objects}
use Rattle.plan.specs.declared.layout.Objects.TheVariants.{Separate, Both, Image, Mask}
use Rattle.plan.specs.declared.layout.Row.{Row}
use Rattle.raster.specs.declared.touches.Placement.{Placement}

-- a layout rectangle with the offsets of the objects that its mask and its image have
abbrev pub placed : Layout → Object → Object → Placement
placed layout mask image =
    record {
      lhoff = layout.lhoff;
      lvoff = layout.lvoff;
      lwidth = layout.lwidth;
      lheight = layout.lheight;
      mask_across = mask.ohoff;
      mask_down = mask.ovoff;
      image_across = image.ohoff;
      image_down = image.ovoff;
    }

-- a lone object's offsets serve mask and image
abbrev pub placed_by : Layout → Objects → Placement
placed_by layout (Separate mask image) = placed layout mask image
placed_by layout (Both object) = placed layout object object
placed_by layout (Image object) = placed layout object object
placed_by layout (Mask object) = placed layout object object

-- where a row stands
abbrev pub placement_of : Row → Placement
placement_of row = placed_by row.layout row.objects
