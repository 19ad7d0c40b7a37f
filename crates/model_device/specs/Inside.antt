-- The device as the code keeps it.
use Rattle.std.specs.Prelude.{◌≡◌}
use Rattle.chapter9.specs.declared.standard_requests.DescriptorSet.{DescriptorSet}
use Rattle.chapter9.specs.Descriptors.{parts_of}
use Rattle.model_device.specs.declared.framework.Framework.{Framework}

-- it has these descriptors, and the parts of their configuration
pub record HasSet (set : DescriptorSet) (framework : Framework) : Type 0 where
  pub set_is : framework.set ≡ set
  pub parts_are : framework.parts ≡ parts_of set.config
