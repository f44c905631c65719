mod FrameLoop
mod FramesLoop
